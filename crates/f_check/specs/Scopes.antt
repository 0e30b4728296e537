-- What is bound around a term.
use Rattle.std.specs.Prelude.{ℕ, ◌-◌, ◌≤◌, List, [], ◌∷◌}
use Rattle.f_terms.specs.Ty.{Ty, Tys, MoreTys, shift, Below}
use Rattle.f_terms.specs.Limits.{Within}
use Rattle.f_terms.specs.Read.{tree}
use Rattle.f_check.specs.declared.scope.Binder.{Binder}

-- a value name around a term: its type, and the number of type names that were around it
pub record Bound : Type 0 where
  pub ty : Ty
  pub at : ℕ

abbrev pub bound : Binder → Bound
bound b = record { ty = tree b.ty; at = b.around }

-- the types of the value names, as they stand under n type names, before those of g; the last name is the innermost
abbrev pub names : ℕ → Tys → List Bound → Tys
names n g [] = g
names n g (b ∷ bs) = names n (MoreTys (shift (n - b.at) 0 b.ty) g) bs

-- the types are in scope themselves, under n type names at most, and keep the limits
abbrev pub IsBound : ℕ → Bound → Type 0
IsBound n b = (b.at ≤ n) × Below b.at b.ty × Within b.ty

abbrev pub IsScope : ℕ → List Bound → Type 0
IsScope n [] = Unit {0}
IsScope n (b ∷ bs) = IsBound n b × IsScope n bs
