-- What is at odds in a fault: the type that a rule wanted, and the one that was found.
use Rattle.std.specs.Prelude.{ℕ, Bool, ◌&&◌, if◌then◌else◌, Option, Some, None}
use Rattle.t_types.specs.Tree.{Ty}
use Rattle.t_rules.specs.Nodes.{few}

-- What is at odds, where n type names are in scope: a type was wanted, and a value of another found; a package was
-- given a type that is no package type; or a register was wanted with a type, and found with another or with none.
pub data Mismatch : Type 0 where
  Types : (wanted found : Ty) (n : ℕ) → Mismatch
  NoPackage : (found : Ty) (n : ℕ) → Mismatch
  Register : (r : ℕ) (wanted : Ty) (found : Option Ty) (n : ℕ) → Mismatch

-- each type in it has few nodes
abbrev pub all_few : Mismatch → Bool
all_few (Types wanted found n) = few wanted && few found
all_few (NoPackage found n) = few found
all_few (Register r wanted None n) = few wanted
all_few (Register r wanted (Some found) n) = few wanted && few found

-- what is said of it: nothing where one of its types has more
unfoldable pub told : Mismatch → Option Mismatch
told m = if all_few m then Some m else None
