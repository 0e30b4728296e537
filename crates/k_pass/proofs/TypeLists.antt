-- Lists of types.
use Rattle.std.proofs.Common.{◌≡◌, ℕ, zero, suc, ◌+◌, ◌-◌, ◌<◌, ◌≤◌, arith, List, [], ◌∷◌, ◌++◌, map, take, length}
use Rattle.std.proofs.Common.{Vec, Global, refl, sym, ap, ◌∙◌}
use Rattle.std.proofs.lemmas.List.{take_all}
use Rattle.f_terms.specs.Ty.{Ty, TTuple, tys}
use Rattle.f_terms.specs.Read.{tree}
use Rattle.f_terms.specs.declared.types.FType.{FType}
use Rattle.k_terms.specs.K as K
use Rattle.k_terms.specs.K.{TKTuple, NoKTys, MoreKTys}
use Rattle.k_terms.specs.Read.{ktree, ktys}
use Rattle.calc_core.specs.declared.types.CoreType.{CoreType as KType}
use Rattle.calc_core.specs.declared.types.CoreType.TheVariants.{Tuple}
use Rattle.calc_core.proofs.Trees.{tree_Tuple}
use Rattle.calc_core.specs.Ends.{under}
use Rattle.k_laws.specs.Cps.{kty, all_kty}

abbrev list_ktys : List K.KTy → K.KTys
list_ktys [] = NoKTys
list_ktys (t ∷ ts) = MoreKTys t (list_ktys ts)

one : (xs : List KType) (t : K.KTy) → ktys xs ≡ MoreKTys t NoKTys → (x : KType) →
    ktys (xs ++ x ∷ []) ≡ MoreKTys t (MoreKTys (ktree x) NoKTys)
one [] t e x = let h : NoKTys ≡ MoreKTys t NoKTys = e in cc
one (y ∷ []) t e x = let h : MoreKTys (ktree y) NoKTys ≡ MoreKTys t NoKTys = e in cc
one (y ∷ z ∷ xs) t e x =
    let h : MoreKTys (ktree y) (MoreKTys (ktree z) (ktys xs)) ≡ MoreKTys t NoKTys = e in
    let r : MoreKTys (ktree z) (ktys xs) ≡ NoKTys = cc in cc

pub ktys_push : (xs ys : List KType) (x : KType) (t : K.KTy) → ktys xs ≡ MoreKTys t NoKTys → ys ≡ xs ++ x ∷ [] →
    ktys ys ≡ MoreKTys t (MoreKTys (ktree x) NoKTys)
ktys_push xs ys x t e f = ap ktys f ∙ one xs t e x

-- under names of its own
pub under_more : (b : ℕ) (r : ℕ → ℕ) → under 1 (under b r) ≡ under (suc b) r
under_more b r = λ j i. each i j
  where
    each : (i : ℕ) → under 1 (under b r) i ≡ under (suc b) r i
    each zero = refl
    each (suc i) = refl

pub under_low : (b : ℕ) (r : ℕ → ℕ) (i : ℕ) → i < b → under b r i ≡ i
under_low zero r i lt = absurd (omega (arith, lt))
under_low (suc b) r zero lt = refl
under_low (suc b) r (suc i) lt = ap suc (under_low b r i (omega (arith, lt)))

pub under_high : (b : ℕ) (r : ℕ → ℕ) (i : ℕ) → b ≤ i → under b r i ≡ b + r (i - b)
under_high zero r i le =
    let e : i ≡ i - 0 = omega arith in let z : r (i - 0) ≡ 0 + r (i - 0) = omega arith in ap r e ∙ z
under_high (suc b) r zero le = absurd (omega (arith, le))
under_high (suc b) r (suc i) le =
    let less : i - b ≡ suc i - suc b = omega arith in
    let more : suc (b + r (suc i - suc b)) ≡ suc b + r (suc i - suc b) = omega arith in
    ap suc (under_high b r i (omega (arith, le)) ∙ ap (λ k. b + r k) less) ∙ more

-- a tuple's type that was made part by part
all_tys : (r : ℕ → ℕ) (ts : List FType) → all_kty r (tys (map tree ts)) ≡ list_ktys (map (λ t. kty r (tree t)) ts)
all_tys r [] = refl
all_tys r (t ∷ ts) = ap (MoreKTys (kty r (tree t))) (all_tys r ts)

of_list : (ts : List KType) → ktys ts ≡ list_ktys (map ktree ts)
of_list [] = refl
of_list (t ∷ ts) = ap (MoreKTys (ktree t)) (of_list ts)

pub made_tuple : (r : ℕ → ℕ) (t : Ty) (made : Vec KType Global) (xs : List FType) (n : ℕ) →
    t ≡ TTuple (tys (map tree xs)) → map ktree made.items ≡ map (λ x. kty r (tree x)) (take n xs) → length xs ≤ n →
    ktree (Tuple made) ≡ kty r t
made_tuple r t made xs n is done all =
    tree_Tuple made
    ∙ ap TKTuple
    (of_list made.items
    ∙ ap list_ktys (done ∙ ap (λ (ys : List FType). map (λ x. kty r (tree x)) ys) (take_all n xs all))
    ∙ sym (all_tys r xs))
    ∙ ap (kty r) (sym is)
