-- Code types that are applied to the types of a tuple's fields.
use Rattle.std.specs.Prelude.{ℕ, ◌-◌, Bool, false, List, [], ◌∷◌, length}
use Rattle.t_types.specs.Tree.{Ty, IntTy, VarTy, CodeTy, ExistsTy, TupleTy, TFields, NoFields, MoreFields, over_file}
use Rattle.t_intern.specs.Spread.{spread}

-- types as fields that are not filled, and back
abbrev pub row : List Ty → TFields
row [] = NoFields
row (t ∷ ts) = MoreFields t false (row ts)

abbrev pub row_types : TFields → List Ty
row_types NoFields = []
row_types (MoreFields t flag fs) = t ∷ row_types fs

abbrev pub types_in : Ty → List Ty
types_in (TupleTy fs) = row_types fs
types_in _ = []

-- numbers as fields that are not filled
abbrev pub unfilled : List ℕ → List (ℕ × Bool)
unfilled [] = []
unfilled (n ∷ ns) = (n, false) ∷ unfilled ns

-- the types in order are put for the first ones that code owes
abbrev pub with_types : List Ty → Ty → Ty
with_types ts (CodeTy owes file) = CodeTy (owes - length ts) (over_file (spread 0 ts) (owes - length ts) file)
with_types ts IntTy = IntTy
with_types ts (VarTy i) = VarTy i
with_types ts (ExistsTy t) = ExistsTy t
with_types ts (TupleTy fs) = TupleTy fs

abbrev pub applied : Ty → Ty → Ty
applied args t = with_types (types_in args) t
