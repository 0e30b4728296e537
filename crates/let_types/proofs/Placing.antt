-- Types that are put at once, by a walk.
use Rattle.std.proofs.Common.{◌≡◌, ◌<◌, ◌∙◌, ◌+◌, ℕ, zero, suc, List, [], ◌∷◌, length, get_or, refl, sym, ap, ap₂}
use Rattle.std.proofs.Common.{arith}
use Rattle.calc_core.specs.Ends.{lift}
use Rattle.calc_core.specs.Types.{Ty, IntTy, VarTy, TupleTy, CodeTy, ExistsTy, RefTy, Tys, NoTys, MoreTys, count}
use Rattle.calc_core.specs.Substitution.{renamed as ren, with_type, with_types, under_binders as up}
use Rattle.calc_core.specs.Substitution.{substituted as sub, all_substituted as subs}
use Rattle.calc_core.specs.Walks.{over, over_all, shift}
use Rattle.calc_core.specs.Read.{tree, all_trees}
use Rattle.calc_core.specs.declared.types.CoreType.{CoreType}
use Rattle.calc_core.proofs.Bridge.{ren_lift}
use Rattle.calc_core.proofs.Lifts.{lift_is, lift_zero}
use Rattle.calc_core.proofs.Substituting.{up_low, up_past, with_types_past}
use Rattle.calc_core.proofs.Trees.{count_length}
use Rattle.let_types.specs.Parts.{placed}

up_deeper : (n d : ℕ) (s z : ℕ → Ty) → ((i : ℕ) → z i ≡ up d s i) → (i : ℕ) → up n z i ≡ up (n + d) s i
up_deeper zero d s z f i = let e : d ≡ 0 + d = omega arith in f i ∙ ap (λ k. up k s i) e
up_deeper (suc n) d s z f zero = let e : suc (n + d) ≡ suc n + d = omega arith in ap (λ k. up k s zero) e
up_deeper (suc n) d s z f (suc i) =
    let e : suc (n + d) ≡ suc n + d = omega arith in
    ap (ren suc) (up_deeper n d s z f i) ∙ ap (λ k. up k s (suc i)) e

up_more : (n d : ℕ) (s z : ℕ → Ty) → ((i : ℕ) → z i ≡ up d s i) → (i : ℕ) → up n z i ≡ up (d + n) s i
up_more n d s z f i = let e : n + d ≡ d + n = omega arith in up_deeper n d s z f i ∙ ap (λ k. up k s i) e

mutual
  sub_over : (t : Ty) (z s : ℕ → Ty) (d : ℕ) → ((i : ℕ) → z i ≡ up d s i) → sub z t ≡ over (λ k. up k s) d t
  sub_over IntTy z s d f = refl
  sub_over (VarTy i) z s d f = f i
  sub_over (TupleTy ts) z s d f = ap TupleTy (subs_over ts z s d f)
  sub_over (CodeTy n ts) z s d f = ap (CodeTy n) (subs_over ts (up n z) s (d + n) (up_more n d s z f))
  sub_over (ExistsTy t) z s d f = ap ExistsTy (sub_over t (up 1 z) s (d + 1) (up_more 1 d s z f))
  sub_over (RefTy t) z s d f = ap RefTy (sub_over t z s d f)

  subs_over : (ts : Tys) (z s : ℕ → Ty) (d : ℕ) → ((i : ℕ) → z i ≡ up d s i) → subs z ts ≡ over_all (λ k. up k s) d ts
  subs_over NoTys z s d f = refl
  subs_over (MoreTys t ts) z s d f = ap₂ MoreTys (sub_over t z s d f) (subs_over ts z s d f)

pub put_all_is : (us ts : Tys) (d : ℕ) → subs (up d (with_types us VarTy)) ts ≡ over_all (placed us) d ts
put_all_is us ts d = subs_over ts (up d (with_types us VarTy)) (with_types us VarTy) d (λ i. refl)

-- the type that is put for a variable
named : (xs : List CoreType) (s : ℕ → Ty) (j m : ℕ) (e : CoreType) → j + suc m ≡ length xs → e ≡ get_or xs m e →
    with_types (all_trees xs) s j ≡ tree e
named [] s j m e long is = absurd (omega (arith, long))
named (x ∷ xs) s j zero e long is =
    let here : j ≡ lift (count (all_trees xs)) 0 =
    let a = lift_zero (count (all_trees xs)) in let b = count_length xs in omega (arith, long, a, b) in
    ap (with_types (all_trees xs) (with_type (tree x) s)) here
    ∙ with_types_past (all_trees xs) (with_type (tree x) s) 0 ∙ ap tree (sym is)
named (x ∷ xs) s j (suc m) e long is = named xs (with_type (tree x) s) j m e (omega (arith, long)) is

pub put_low : (us : Tys) (d i : ℕ) → i < d → VarTy i ≡ placed us d i
put_low us d i lt = sym (up_low d (with_types us VarTy) i lt)

past : (us : Tys) (d i j : ℕ) → i ≡ d + j → placed us d i ≡ ren (lift d) (with_types us VarTy j)
past us d i j is =
    let e : i ≡ lift d j = let l = lift_is d j in omega (arith, is, l) in
    ap (up d (with_types us VarTy)) e ∙ up_past d (with_types us VarTy) j

pub put_there : (xs : List CoreType) (d i j m : ℕ) (e : CoreType) (t : Ty) → i ≡ d + j → j + suc m ≡ length xs →
    e ≡ get_or xs m e → t ≡ shift d 0 (tree e) → t ≡ placed (all_trees xs) d i
put_there xs d i j m e t is long item made =
    made ∙ ap (shift d 0) (sym (named xs VarTy j m e long item))
    ∙ sym (past (all_trees xs) d i j is ∙ ren_lift d (with_types (all_trees xs) VarTy j))

pub put_past : (xs : List CoreType) (d i j k n : ℕ) → i ≡ d + j → j ≡ n + length xs → k ≡ n + d →
    VarTy k ≡ placed (all_trees xs) d i
put_past xs d i j k n is more sum =
    let us = all_trees xs in
    let at : j ≡ lift (count us) n =
    let l = lift_is (count us) n in let c = count_length xs in omega (arith, more, l, c)
    in
    let up_is : k ≡ lift d n = let l = lift_is d n in omega (arith, sum, l) in
    ap VarTy up_is ∙ ap (ren (lift d)) (sym (with_types_past us VarTy n) ∙ ap (with_types us VarTy) (sym at))
    ∙ sym (past us d i j is)
