-- Which types are those of closures, `some b. <code[as](b, ts), b>` where ts don't name b.
use Rattle.std.specs.Prelude.{ℕ, ◌+◌, nat_eq, Bool, false, not, ◌&&◌, ◌||◌}
use Rattle.a_terms.specs.Tree.{ATy, AInt, AVar, ATuple, ACode, AExists, ATys, NoATys, MoreATys, AFields, NoAFields}
use Rattle.a_terms.specs.Tree.{MoreAFields}

-- whether a type names the variable i
abbrev mutual
  pub names_type : ℕ → ATy → Bool
  names_type i AInt = false
  names_type i (AVar j) = nat_eq j i
  names_type i (ATuple fields) = names_fields i fields
  names_type i (ACode owes args) = names_types (i + owes) args
  names_type i (AExists t) = names_type (i + 1) t

  pub names_types : ℕ → ATys → Bool
  names_types i NoATys = false
  names_types i (MoreATys t ts) = names_type i t || names_types i ts

  pub names_fields : ℕ → AFields → Bool
  names_fields i NoAFields = false
  names_fields i (MoreAFields t flag fields) = names_type i t || names_fields i fields

-- whether a type is the variable i
abbrev pub is_variable : ℕ → ATy → Bool
is_variable i (AVar j) = nat_eq j i
is_variable i _ = false

-- whether the first of the types is the variable i, which the others don't name
abbrev pub is_first : ℕ → ATys → Bool
is_first i NoATys = false
is_first i (MoreATys t ts) = is_variable i t && not (names_types i ts)

-- whether a type is code that takes the variable next to it first, and names it nowhere else
abbrev pub takes_hidden : ATy → Bool
takes_hidden (ACode owes args) = is_first owes args
takes_hidden _ = false

-- whether it is one field, initialised, of the type that is hidden
abbrev pub is_hidden : AFields → Bool
is_hidden NoAFields = false
is_hidden (MoreAFields t flag NoAFields) = flag && is_variable 0 t
is_hidden (MoreAFields t flag (MoreAFields u set fields)) = false

-- whether these are the fields of a closure: initialised, its code and its environment
abbrev pub are_of_closure : AFields → Bool
are_of_closure NoAFields = false
are_of_closure (MoreAFields t flag fields) = flag && (takes_hidden t && is_hidden fields)

-- whether the package of this type is a closure
abbrev pub is_of_closure : ATy → Bool
is_of_closure (ATuple fields) = are_of_closure fields
is_of_closure _ = false
