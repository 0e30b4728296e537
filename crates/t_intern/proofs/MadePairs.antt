-- Types that were made of two types by a function, after a note and as the list grows.
use Rattle.std.proofs.Common.{◌≡◌, ℕ, ◌<◌, Bool, true, false, List, length, refl, sym, ◌∙◌, ap, ap₂, arith, subst}
use Rattle.std.proofs.Common.{Option, Some, None, cond}
use Rattle.std.specs.Prelude.{IfSome}
use Rattle.std.specs.Cmp.{unsigned_Decides}
use Rattle.std.proofs.lemmas.Bool.Decides.{Decides-and}
use Rattle.t_types.specs.Tree.{Ty}
use Rattle.t_intern.specs.Found.{same_key}
use Rattle.t_intern.specs.Grown.{Grown, IsNumber}
use Rattle.t_intern.specs.Memo.{AreMade}
use Rattle.t_intern.specs.Nodes.{at}
use Rattle.t_intern.proofs.Growing.{grown_length, grown_at, grown_number}
use Rattle.t_intern.proofs.Recalls.{value}

pub none_made : (f : Ty → Ty → Ty) (found : ℕ × ℕ → Option ℕ) (ts : List Ty) → ((k : ℕ × ℕ) → found k ≡ None) →
    AreMade f found ts
none_made f found ts none k m e = absurd (let h = sym (none k) ∙ e in cc)

pub same_made : (f : Ty → Ty → Ty) (old new : ℕ × ℕ → Option ℕ) (ts : List Ty) → ((k : ℕ × ℕ) → new k ≡ old k) →
    AreMade f old ts → AreMade f new ts
same_made f old new ts u all k m e = all k m (sym (u k) ∙ e)

pub made_noted : (f : Ty → Ty → Ty) (old new : ℕ × ℕ → Option ℕ) (ts : List Ty) (n by made : ℕ) →
    ((q : ℕ × ℕ) → new q ≡ cond (same_key (n, by) q) (Some made) (old q)) →
    AreMade f old ts → n < length ts → by < length ts → IsNumber ts (f (at ts by) (at ts n)) made → AreMade f new ts
made_noted f old new ts n by made u all l s is k m e = by_test (same_key (n, by) k) refl (u k)
  where
    by_test : (b : Bool) → same_key (n, by) k ≡ b → new k ≡ cond (same_key (n, by) k) (Some made) (old k) →
        (k.0 < length ts) × (k.1 < length ts) × IsNumber ts (f (at ts k.1) (at ts k.0)) m
    by_test true q r =
        let both = (Decides-and _ _ (unsigned_Decides n k.0) (unsigned_Decides by k.1)).0 q in
        let v : made ≡ m = ap value (sym (r ∙ ap (λ b. cond b (Some made) (old k)) q) ∙ e) in
        let key : (n, by) ≡ k = ap₂ (λ a b. (a, b)) both.0 both.1 in
        subst (λ (j : ℕ × ℕ). (j.0 < length ts) × (j.1 < length ts) × IsNumber ts (f (at ts j.1) (at ts j.0)) m) key
        (l, s, subst (IsNumber ts (f (at ts by) (at ts n))) v is)
    by_test false q r = all k m (sym (r ∙ ap (λ b. cond b (Some made) (old k)) q) ∙ e)

pub made_grown : (f : Ty → Ty → Ty) (found : ℕ × ℕ → Option ℕ) (ts us : List Ty) → Grown ts us → AreMade f found ts →
    AreMade f found us
made_grown f found ts us g all k m e =
    let h = all k m e in
    let l = grown_length ts us g in
    let same = ap₂ f (grown_at ts us g k.1 h.1) (grown_at ts us g k.0 h.0) in (
      omega (arith, h.0, l),
      omega (arith, h.1, l),
      subst (λ t. IsNumber us t m) (sym same) (grown_number ts us g _ m h.2),
    )

-- what was made, where the list has grown
pub made_next : (f : Ty → Ty → Ty) (ts us : List Ty) (n by made : ℕ) → Grown ts us → n < length ts → by < length ts →
    IsNumber us (f (at ts by) (at ts n)) made → IsNumber us (f (at us by) (at us n)) made
made_next f ts us n by made g l s h =
    subst (λ t. IsNumber us t made) (sym (ap₂ f (grown_at ts us g by s) (grown_at ts us g n l))) h

-- what was found
pub made_recalled : (f : Ty → Ty → Ty) (found : ℕ × ℕ → Option ℕ) (ts : List Ty) (n by : ℕ) (r : Option ℕ) →
    r ≡ found (n, by) → AreMade f found ts → IfSome r (IsNumber ts (f (at ts by) (at ts n)))
made_recalled f found ts n by None e all = tt
made_recalled f found ts n by (Some m) e all = (all (n, by) m (sym e)).2
