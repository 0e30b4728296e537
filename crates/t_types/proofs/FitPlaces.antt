-- Fields that fit, and tuple types.
use Rattle.std.proofs.Common.{◌≡◌, suc, List, [], ◌∷◌, length, Bool, refl, ap, subst}
use Rattle.t_types.specs.declared.types.TType.{TType}
use Rattle.t_types.specs.Tree.{Ty, TupleTy, TFields}
use Rattle.t_types.specs.Fits.{Fits, FieldsFit}
use Rattle.t_types.specs.Read.{fields}

abbrev pub AllFit : List (TType × Bool) → List (TType × Bool) → Type 0
AllFit a b = FieldsFit (fields a) (fields b)

pub fit_len : (a b : List (TType × Bool)) → AllFit a b → length a ≡ length b
fit_len [] [] h = refl
fit_len (x ∷ a) (y ∷ b) h = ap suc (fit_len a b h.2)
fit_len [] (y ∷ b) h = absurd h
fit_len (x ∷ a) [] h = absurd h

-- tuple types fit only where their fields do
pub tuples_fit : (t u : Ty) (fs gs : TFields) → t ≡ TupleTy fs → u ≡ TupleTy gs → Fits t u → FieldsFit fs gs
tuples_fit t u fs gs a b h = subst (Fits (TupleTy fs)) b (subst (λ z. Fits z u) a h)
