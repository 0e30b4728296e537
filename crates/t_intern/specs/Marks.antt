-- A set of numbers from 1 on, as a type: the empty set is `int`, and a set is a tuple of two sets. The first field's
-- flag says whether 1 is in it; the first field has the halves of its even numbers, the second those of its odd ones.
use Rattle.std.specs.Prelude.{ℕ, ◌+◌, ◌/◌, ◌%◌, Bool, false, cond, ◌||◌, nat_eq, nat_le}
use Rattle.t_types.specs.Tree.{Ty, IntTy, VarTy, CodeTy, ExistsTy, TupleTy, TFields, NoFields, MoreFields}

-- by the parts of a set
abbrev pub branch : Bool → (ℕ → Bool) → (ℕ → Bool) → ℕ → Bool
branch here left right p = cond (nat_le p 1) here (cond (nat_eq (p % 2) 0) (left (p / 2)) (right (p / 2)))

abbrev pub none : ℕ → Bool
none p = false

abbrev mutual
  pub has : Ty → ℕ → Bool
  has (TupleTy fs) = has_first fs
  has IntTy = none
  has (VarTy i) = none
  has (CodeTy owes file) = none
  has (ExistsTy t) = none

  pub has_first : TFields → ℕ → Bool
  has_first NoFields = none
  has_first (MoreFields t flag fs) = has_second (has t) flag fs

  pub has_second : (ℕ → Bool) → Bool → TFields → ℕ → Bool
  has_second left here NoFields = none
  has_second left here (MoreFields t flag fs) = has_third left here (has t) fs

  pub has_third : (ℕ → Bool) → Bool → (ℕ → Bool) → TFields → ℕ → Bool
  has_third left here right NoFields = branch here left right
  has_third left here right (MoreFields t flag fs) = none

-- the fields, from the number p on, with the flags of the numbers that are in a set
abbrev pub marked_fields : (ℕ → Bool) → ℕ → TFields → TFields
marked_fields set p NoFields = NoFields
marked_fields set p (MoreFields t flag fs) = MoreFields t (flag || set p) (marked_fields set (p + 1) fs)

-- the type with the marks of a set
abbrev pub marked : Ty → Ty → Ty
marked set (TupleTy fs) = TupleTy (marked_fields (has set) 1 fs)
marked set IntTy = IntTy
marked set (VarTy i) = VarTy i
marked set (CodeTy owes file) = CodeTy owes file
marked set (ExistsTy t) = ExistsTy t
