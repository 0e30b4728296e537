-- Types in scope: of type variables, and of the values that have names.
use Rattle.std.specs.Prelude.{◌≡◌, ◌<◌, ℕ, zero, suc, List, [], ◌∷◌}
use Rattle.calc_core.specs.Ends.{lift}
use Rattle.calc_core.specs.Types.{Ty, IntTy, VarTy, TupleTy, CodeTy, ExistsTy, RefTy, Tys, NoTys, MoreTys}

-- a type's free variables are among the first n
abbrev mutual
  pub InScope : ℕ → Ty → Type 0
  InScope n IntTy = Unit {0}
  InScope n (VarTy i) = i < n
  InScope n (TupleTy ts) = AllInScope n ts
  InScope n (CodeTy m ts) = AllInScope (lift m n) ts
  InScope n (ExistsTy t) = InScope (suc n) t
  InScope n (RefTy t) = InScope n t

  pub AllInScope : ℕ → Tys → Type 0
  AllInScope n NoTys = Unit {0}
  AllInScope n (MoreTys t ts) = InScope n t × AllInScope n ts

-- name i, the innermost first, has type t
abbrev pub IsTypeOf : List Ty → ℕ → Ty → Type 0
IsTypeOf [] i t = ⊥
IsTypeOf (u ∷ g) zero t = t ≡ u
IsTypeOf (u ∷ g) (suc i) t = IsTypeOf g i t

-- field i, from 1 on, has type t
abbrev pub IsField : ℕ → Tys → Ty → Type 0
IsField i NoTys t = ⊥
IsField zero (MoreTys u us) t = ⊥
IsField (suc zero) (MoreTys u us) t = t ≡ u
IsField (suc (suc i)) (MoreTys u us) t = IsField (suc i) us t

-- the types in scope with those of arguments before them, the last one first
abbrev pub args_onto : Tys → List Ty → List Ty
args_onto NoTys g = g
args_onto (MoreTys t ts) g = args_onto ts (t ∷ g)
