-- The types in scope under more type variables, and the type of a field.
use Rattle.std.proofs.Common.{◌≡◌, ℕ, zero, suc, List, [], ◌∷◌, Some, None, refl, ap}
use Rattle.f_terms.specs.Ty.{Ty, Tys, NoTys, MoreTys}
use Rattle.f_terms.specs.Typing.{field_ty}
use Rattle.k_terms.specs.K.{KTy, kren, krens_scope}
use Rattle.k_terms.specs.Types.{ktype_at, kfield}
use Rattle.k_laws.specs.Cps.{kty, all_kty}

pub at_krens : (q : ℕ → ℕ) (g : List KTy) (i : ℕ) → ktype_at (krens_scope q g) i ≡ kren q (ktype_at g i)
at_krens q [] i = refl
at_krens q (t ∷ g) zero = refl
at_krens q (t ∷ g) (suc i) = at_krens q g i

pub field_is : (r : ℕ → ℕ) (ts : Tys) (i : ℕ) (t : Ty) → field_ty ts i ≡ Some t → kfield i (all_kty r ts) ≡ kty r t
field_is r ts zero t e = let x : None ≡ Some t = e in cc
field_is r NoTys (suc i) t e = let x : None ≡ Some t = e in cc
field_is r (MoreTys u ts) (suc zero) t e = let x : Some u ≡ Some t = e in let y : u ≡ t = cc in ap (kty r) y
field_is r (MoreTys u ts) (suc (suc i)) t e = field_is r ts (suc i) t e
