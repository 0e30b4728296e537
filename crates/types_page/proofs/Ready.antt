-- The names in scope where a term that passes its checks is gone through: their types are in scope and keep the limits,
-- and so does the term's type.
use Rattle.std.proofs.Common.{◌≡◌, ◌≤◌, ℕ, zero, suc, ◌+◌, ◌-◌, List, [], ◌∷◌, length, get_or, Some, None}
use Rattle.std.proofs.Common.{sym, arith, subst}
use Rattle.idx_core.specs.Over.{BelowAt, AnyDepth}
use Rattle.f_terms.specs.Ty.{Ty, TArrow, TAll, TTuple, TRef, Tys, NoTys, MoreTys, shift, each_all}
use Rattle.f_terms.specs.Ty.{Below, ShiftFits}
use Rattle.f_terms.specs.TyLaws.{shift_bound, put_bound}
use Rattle.f_terms.specs.Tm.{Tm, SVar, SNum, SFix, SApp, SGen, SInst, STuple, SProj, SArith, SIf0, SLet, SPack, SOpen}
use Rattle.f_terms.specs.Tm.{SRef, SDeref, SAssign, Tms, NoTms, MoreTms}
use Rattle.f_terms.specs.Laws.{AllWithin}
use Rattle.f_terms.specs.Typing.{ty_at, field_ty, raised}
use Rattle.f_terms.specs.Faults.{Passes, PassAll}
use Rattle.f_terms.specs.OneType.{some_is}
use Rattle.f_terms.proofs.Limited.{shift_within}
use Rattle.f_terms.specs.Read.{tree}
use Rattle.f_check.proofs.Types.{shift_fits}
use Rattle.types_page.specs.Walk.{Named, context, IsScope, back_on, back, named}
use Rattle.types_page.specs.declared.state.Name.{Name}

abbrev AllBelow : ℕ → Tys → Type 0
AllBelow n g = each_all BelowAt AnyDepth n g

pub context_below : (n : ℕ) (bs : List Named) → IsScope n bs → AllBelow n (context n bs)
context_below n [] ok = tt
context_below n (b ∷ bs) ok =
    let le = ok.0 in
    let e : b.at + (n - b.at) ≡ n = omega (arith, le) in
    (subst (λ m. Below m (shift (n - b.at) 0 b.ty)) e (shift_bound (n - b.at) b.at b.ty ok.1), context_below n bs ok.3)

pub context_within : (n : ℕ) (bs : List Named) → IsScope n bs → AllWithin (context n bs)
context_within n [] ok = tt
context_within n (b ∷ bs) ok = (shift_within (n - b.at) b.ty ok.2, context_within n bs ok.3)

-- ---- the type of what passes is in scope

none_is_no_some : {t : Ty} → None ≡ Some t → ⊥
none_is_no_some e = cc

at_below : (n : ℕ) (g : Tys) (i : ℕ) (t : Ty) → AllBelow n g → ty_at g i ≡ Some t → Below n t
at_below n NoTys i t b e = absurd (none_is_no_some e)
at_below n (MoreTys u g) zero t b e = subst (Below n) (some_is e) b.0
at_below n (MoreTys u g) (suc i) t b e = at_below n g i t b.1 e

field_below : (n : ℕ) (g : Tys) (i : ℕ) (t : Ty) → AllBelow n g → field_ty g i ≡ Some t → Below n t
field_below n g zero t b e = absurd (none_is_no_some e)
field_below n g (suc i) t b e = at_below n g i t b e

raised_below : (n : ℕ) (g : Tys) → AllBelow n g → AllBelow (n + 1) (raised g)
raised_below n NoTys b = tt
raised_below n (MoreTys t g) b = (shift_bound 1 n t b.0, raised_below n g b.1)

mutual
  pub passed_below : (e : Tm) (n : ℕ) (g : Tys) (t : Ty) → AllBelow n g → Passes e n g t → Below n t
  passed_below (SVar s i) n g t b h = at_below n g i t b h
  passed_below (SNum s i) n g t b h = subst (Below n) (sym h) tt
  passed_below (SFix s arg res e) n g t b h = subst (Below n) (sym h.0) (h.1, h.2)
  passed_below (SApp s f x) n g t b h = (passed_below f n g (TArrow h.0 t) b h.1).1
  passed_below (SGen s e) n g t b h =
      subst (Below n) (sym h.1) (tt, passed_below e (n + 1) (raised g) h.0 (raised_below n g b) h.2)
  passed_below (SInst s e a) n g t b h =
      subst (Below n) (sym h.1) (put_bound n a h.0 h.2 (passed_below e n g (TAll h.0) b h.3).1)
  passed_below (STuple s es) n g t b h = subst (Below n) (sym h.1) (all_passed_below es n g h.0 b h.2)
  passed_below (SProj s i e) n g t b h = field_below n h.0 i t (passed_below e n g (TTuple h.0) b h.2) h.1
  passed_below (SArith s op x y) n g t b h = subst (Below n) (sym h.0) tt
  passed_below (SIf0 s c x y) n g t b h = passed_below x n g t b h.1
  passed_below (SLet s x y) n g t b h = passed_below y n (MoreTys h.0 g) t (passed_below x n g h.0 b h.1, b) h.2
  passed_below (SPack s x e r) n g t b h = subst (Below n) (sym h.2) h.4
  passed_below (SOpen s x y) n g t b h = h.1
  passed_below (SRef s e) n g t b h = subst (Below n) (sym h.1) (passed_below e n g h.0 b h.2)
  passed_below (SDeref s e) n g t b h = passed_below e n g (TRef t) b h
  passed_below (SAssign s x y) n g t b h = subst (Below n) (sym h.1) tt

  all_passed_below : (es : Tms) (n : ℕ) (g ts : Tys) → AllBelow n g → PassAll es n g ts → AllBelow n ts
  all_passed_below NoTms n g ts b h = subst (AllBelow n) (sym h) tt
  all_passed_below (MoreTms e es) n g ts b h =
      subst (AllBelow n) (sym h.2) (passed_below e n g h.0 b h.3, all_passed_below es n g h.1 b h.4)

-- ---- a name of a stack

below_it : (n : ℕ) (bs : List Named) (xs : List Name) → IsScope n (back_on named bs xs) → IsScope n bs
below_it n bs [] ok = ok
below_it n bs (x ∷ xs) ok = (below_it n (named x ∷ bs) xs ok).3

name_there : (n : ℕ) (bs : List Named) (xs : List Name) (k : ℕ) (d : Name) → suc k ≤ length xs →
    IsScope n (back_on named bs xs) → IsScope n (named (get_or xs k d) ∷ [])
name_there n bs [] k d lt ok = absurd (omega (arith, lt))
name_there n bs (x ∷ xs) zero d lt ok =
    let h = below_it n (named x ∷ bs) xs ok in
    (h.0, h.1, h.2, tt)
name_there n bs (x ∷ xs) (suc k) d lt ok = name_there n (named x ∷ bs) xs k d (omega (arith, lt)) ok

pub found_fits : (n by : ℕ) (xs : List Name) (k : ℕ) (x : Name) → suc k ≤ length xs → x ≡ get_or xs k x → by ≤ n →
    n ≤ 4294967296 → IsScope n (back named xs) → ShiftFits by 0 (tree x.ty)
found_fits n by xs k x lt is less room ok =
    let found : IsScope n (named x ∷ []) =
    subst (λ (y : Name). IsScope n (named y ∷ [])) (sym is) (name_there n [] xs k x lt ok) in
    let le = found.0 in
    shift_fits by x.around (tree x.ty) (omega (arith, le, less, room)) found.1 found.2.0
