-- The parts of a set of numbers, and a type with marks, of which there may be none.
use Rattle.std.specs.Prelude.{◌≡◌, ℕ, ◌+◌, ◌<◌, ◌≤◌, Bool, false, ◌||◌, nat_eq, List, [], ◌∷◌, length}
use Rattle.std.specs.Prelude.{Option, Some, None}
use Rattle.t_types.specs.Tree.{Ty}
use Rattle.t_intern.specs.Marks.{branch, none, has, marked}
use Rattle.t_intern.specs.Nodes.{at}
use Rattle.t_known.specs.declared.marks.Branches.{Branches}

-- the parts of a set, by their numbers; there are none where it is empty
abbrev pub AreBranches : List Ty → ℕ → Option Branches → Type 0
AreBranches ts set None = (p : ℕ) → has (at ts set) p ≡ false
AreBranches ts set (Some b) =
    ((p : ℕ) → has (at ts set) p ≡ branch b.here (has (at ts b.left)) (has (at ts b.right)) p)
    × (b.left < length ts) × (b.right < length ts)

-- the same where the types have grown to us
abbrev pub IsOpened : List Ty → List Ty → ℕ → Branches → Type 0
IsOpened ts us set b =
    ((p : ℕ) → has (at ts set) p ≡ branch b.here (has (at us b.left)) (has (at us b.right)) p)
    × (b.left < length us) × (b.right < length us)

-- m is the set with one number more
abbrev pub IsWith : List Ty → List Ty → ℕ → ℕ → ℕ → Type 0
IsWith ts us set p m =
    (m < length us) × ((q : ℕ) → 1 ≤ q → has (at us m) q ≡ (nat_eq q p || has (at ts set) q))

-- the numbers that are marked, where there may be no set
abbrev pub marks : List Ty → Option ℕ → ℕ → Bool
marks ts None = none
marks ts (Some set) = has (at ts set)

abbrev pub IsMarks : List Ty → Option ℕ → Type 0
IsMarks ts None = Unit {0}
IsMarks ts (Some set) = set < length ts

-- the type with the flags of the marked fields, which count from 1
abbrev pub with_marks : List Ty → Option ℕ → Ty → Ty
with_marks ts None t = t
with_marks ts (Some set) t = marked (at ts set) t

-- the fields of a list, from the number p on, with the flags of the numbers that are in a set
abbrev pub marked_list : (ℕ → Bool) → ℕ → List (ℕ × Bool) → List (ℕ × Bool)
marked_list set p [] = []
marked_list set p (x ∷ xs) = (x.0, x.1 || set p) ∷ marked_list set (p + 1) xs
