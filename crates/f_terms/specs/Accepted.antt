-- What a checker of source terms accepts: source typing, and the limits on types.
use Rattle.std.specs.Prelude.{ℕ}
use Rattle.f_terms.specs.Ty.{Ty, Tys, NoTys}
use Rattle.f_terms.specs.Tm.{Term}
use Rattle.f_terms.specs.Limits.{Within}
use Rattle.f_terms.specs.Typing.{IsTyped}
use Rattle.f_terms.specs.Keeps.{Keeps}

-- the type of each subexpression keeps L4 and L5, and so does each t of an e[t] and of a pack[t, e]
abbrev pub KeepsLimits : Term → ℕ → Tys → Type 0
KeepsLimits e n g = Keeps Within e n g

-- a term with no names around it has the type t, and the limits are kept
abbrev pub IsAccepted : Term → Ty → Type 0
IsAccepted e t = IsTyped e t × KeepsLimits e 0 NoTys
