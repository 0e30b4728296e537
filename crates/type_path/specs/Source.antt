-- The first difference of two types of the source.
use Rattle.std.specs.Prelude.{ℕ, ◌+◌, ◌==◌, [], ◌∷◌, Option, Some, None, option_map, if◌then◌else◌}
use Rattle.f_terms.specs.Ty.{Ty, TInt, TVar, TArrow, TAll, TTuple, TSome, TRef, Tys, NoTys, MoreTys}
use Rattle.f_terms.specs.Typing.{field_ty}
use Rattle.type_path.specs.Paths.{Path, Head, Integer, Variable, Function, Polymorphic, Tuple, Package, Reference}
use Rattle.type_path.specs.Paths.{follow, or_else, inside}
use Rattle.type_path.specs.declared.step.Step.{Step}
use Rattle.type_path.specs.declared.step.Step.TheVariants.{Argument, Result, Body, Cell, Field}

-- what a type is, apart from its parts
abbrev pub head : Ty → Head
head TInt = Integer
head (TVar i) = Variable i
head (TArrow a b) = Function
head (TAll t) = Polymorphic
head (TTuple ts) = Tuple
head (TSome t) = Package
head (TRef t) = Reference

-- the part behind a step: fields have the numbers that `#` takes
abbrev pub into : Step → Ty → Option Ty
into Argument (TArrow a b) = Some a
into Result (TArrow a b) = Some b
into Body (TAll t) = Some t
into Body (TSome t) = Some t
into Cell (TRef t) = Some t
into (Field i) (TTuple ts) = field_ty ts i
into other t = None

-- the part at a path, and its head
abbrev pub part : Path → Ty → Option Ty
part = follow into

abbrev pub heads : Ty → Path → Option Head
heads t p = option_map head (part p t)

-- the path to the first difference, where there is one; bound names are numbers, so they make none
abbrev mutual
  pub difference : Ty → Ty → Option Path
  difference TInt TInt = None
  difference (TVar i) (TVar j) = if i == j then None else Some []
  difference (TArrow a b) (TArrow c d) = or_else (inside Argument (difference a c)) (inside Result (difference b d))
  difference (TAll t) (TAll u) = inside Body (difference t u)
  difference (TTuple ts) (TTuple us) = differences 1 ts us
  difference (TSome t) (TSome u) = inside Body (difference t u)
  difference (TRef t) (TRef u) = inside Cell (difference t u)
  difference t u = Some []

  -- that of fields, from field k on
  pub differences : ℕ → Tys → Tys → Option Path
  differences k NoTys NoTys = None
  differences k (MoreTys t ts) (MoreTys u us) =
      or_else (inside (Field k) (difference t u)) (differences (k + 1) ts us)
  differences k ts us = Some (Field k ∷ [])
