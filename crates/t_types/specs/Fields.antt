-- The fields of a tuple type.
use Rattle.std.specs.Prelude.{ℕ, zero, suc, Bool, true, false, List, [], ◌∷◌, Option, Some, None}
use Rattle.t_types.specs.Tree.{Ty, TFields, NoFields, MoreFields}

-- the type and the flag of a field
pub data TField : Type 0 where
  AField : (t : Ty) (flag : Bool) → TField

-- field i, from 0
abbrev pub field : TFields → ℕ → Option TField
field NoFields i = None
field (MoreFields t flag fs) zero = Some (AField t flag)
field (MoreFields t flag fs) (suc i) = field fs i

-- the same fields, flag i at 1
abbrev pub filled : TFields → ℕ → TFields
filled NoFields i = NoFields
filled (MoreFields t flag fs) zero = MoreFields t true fs
filled (MoreFields t flag fs) (suc i) = MoreFields t flag (filled fs i)

-- fields of these types, each with this flag
abbrev pub all_flagged : Bool → List Ty → TFields
all_flagged flag [] = NoFields
all_flagged flag (t ∷ ts) = MoreFields t flag (all_flagged flag ts)

-- the same with all flags 0
abbrev pub empty_fields : List Ty → TFields
empty_fields ts = all_flagged false ts
