-- Shifts that were made, after a note and as the list grows.
use Rattle.std.proofs.Common.{◌≡◌, ℕ, ◌<◌, Bool, true, false, List, length, refl, sym, ◌∙◌, ap, ap₂, arith, subst}
use Rattle.std.proofs.Common.{Option, Some, None, cond}
use Rattle.std.specs.Prelude.{IfSome}
use Rattle.std.specs.Cmp.{unsigned_Decides}
use Rattle.std.proofs.lemmas.Bool.Decides.{Decides-and}
use Rattle.idx_core.specs.Over.{shifted}
use Rattle.idx_core.specs.Laws.{shift_zero_law}
use Rattle.t_types.specs.Tree.{Ty, VarTy, over, shift}
use Rattle.t_types.specs.TreeLaws.{types_over}
use Rattle.t_intern.specs.Found.{same_shift}
use Rattle.t_intern.specs.Grown.{Grown, IsNumber}
use Rattle.t_intern.specs.Memo.{AreShifts}
use Rattle.t_intern.specs.Nodes.{at}
use Rattle.t_intern.proofs.Growing.{grown_length, grown_at}
use Rattle.t_intern.proofs.Recalls.{value, no_memo, same_memo, grown_memo}

-- a shift by nothing
pub shift_still : (ts : List Ty) (n by cut : ℕ) → n < length ts → by ≡ 0 → IsNumber ts (shift by cut (at ts n)) n
shift_still ts n by cut l e = (l, sym (ap (λ k. shift k cut (at ts n)) e ∙ shift_zero_law types_over cut (at ts n)))

pub no_shifts : (found : ℕ × (ℕ × ℕ) → Option ℕ) (ts : List Ty) → ((k : ℕ × (ℕ × ℕ)) → found k ≡ None) →
    AreShifts found ts
no_shifts found ts none by = no_memo (shifted VarTy by) (λ k. found (by, k)) ts (λ k. none (by, k))

pub same_shifts : (old new : ℕ × (ℕ × ℕ) → Option ℕ) (ts : List Ty) → ((k : ℕ × (ℕ × ℕ)) → new k ≡ old k) →
    AreShifts old ts → AreShifts new ts
same_shifts old new ts u all by =
    same_memo (shifted VarTy by) ts (λ k. old (by, k)) (λ k. new (by, k)) (λ k. u (by, k)) (all by)

pub shift_noted : (old new : ℕ × (ℕ × ℕ) → Option ℕ) (ts : List Ty) (n by cut made : ℕ) →
    ((q : ℕ × (ℕ × ℕ)) → new q ≡ cond (same_shift (by, (n, cut)) q) (Some made) (old q)) →
    AreShifts old ts → n < length ts → IsNumber ts (shift by cut (at ts n)) made → AreShifts new ts
shift_noted old new ts n by cut made u all l is other k m e =
    by_test (same_shift (by, (n, cut)) (other, k)) refl (u (other, k))
  where
    by_test : (b : Bool) → same_shift (by, (n, cut)) (other, k) ≡ b →
        new (other, k) ≡ cond (same_shift (by, (n, cut)) (other, k)) (Some made) (old (other, k)) →
        (k.0 < length ts) × IsNumber ts (over (shifted VarTy other) k.1 (at ts k.0)) m
    by_test true q r =
        let both = (Decides-and _ _ (unsigned_Decides by other)
        (Decides-and _ _ (unsigned_Decides n k.0) (unsigned_Decides cut k.1))).0 q in
        let rest = both.1 in
        let v : made ≡ m = ap value (sym (r ∙ ap (λ b. cond b (Some made) (old (other, k))) q) ∙ e) in
        let key : (n, cut) ≡ k = ap₂ (λ a b. (a, b)) rest.0 rest.1 in
        let mine : IsNumber ts (shift other cut (at ts n)) m =
        subst (λ d. IsNumber ts (shift d cut (at ts n)) m) both.0
        (subst (IsNumber ts (shift by cut (at ts n))) v is) in
        subst (λ (j : ℕ × ℕ). (j.0 < length ts) × IsNumber ts (over (shifted VarTy other) j.1 (at ts j.0)) m) key
        (l, mine)
    by_test false q r = all other k m (sym (r ∙ ap (λ b. cond b (Some made) (old (other, k))) q) ∙ e)

pub shifts_grown : (found : ℕ × (ℕ × ℕ) → Option ℕ) (ts us : List Ty) → Grown ts us → AreShifts found ts →
    AreShifts found us
shifts_grown found ts us g all by = grown_memo (shifted VarTy by) (λ k. found (by, k)) ts us g (all by)

-- what was made for a type, where the list has grown
pub made_next : (ts us : List Ty) (n by cut made : ℕ) → Grown ts us → n < length ts →
    IsNumber us (shift by cut (at ts n)) made → (n < length us) × IsNumber us (shift by cut (at us n)) made
made_next ts us n by cut made g l h =
    let m = grown_length ts us g in
    (omega (arith, l, m), subst (λ t. IsNumber us (shift by cut t) made) (sym (grown_at ts us g n l)) h)

-- what was found
pub recalled : (found : ℕ × (ℕ × ℕ) → Option ℕ) (ts : List Ty) (n by cut : ℕ) (r : Option ℕ) →
    r ≡ found (by, (n, cut)) → AreShifts found ts → IfSome r (IsNumber ts (shift by cut (at ts n)))
recalled found ts n by cut None e all = tt
recalled found ts n by cut (Some m) e all = (all by (n, cut) m (sym e)).1
