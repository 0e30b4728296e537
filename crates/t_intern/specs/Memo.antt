-- Numbers that are remembered: for a type and a depth, that of the walked type; for a type and a set, that of the type
-- with the marks of the set; for a code type and a tuple, that of the code applied to the types of the tuple's fields.
use Rattle.std.specs.Prelude.{◌≡◌, ℕ, ◌<◌, List, length, Option, Some}
use Rattle.idx_core.specs.Over.{At, shifted}
use Rattle.t_types.specs.Tree.{Ty, VarTy, over}
use Rattle.t_intern.specs.Applied.{applied}
use Rattle.t_intern.specs.Nodes.{at}
use Rattle.t_intern.specs.Grown.{IsNumber}
use Rattle.t_intern.specs.Marks.{marked}

-- what is found is the number of the walked type
abbrev pub Remembers : At Ty → (ℕ × ℕ → Option ℕ) → List Ty → Type 0
Remembers f found ts =
    (k : ℕ × ℕ) (m : ℕ) → found k ≡ Some m → (k.0 < length ts) × IsNumber ts (over f k.1 (at ts k.0)) m

-- the same for shifts by any number, which stands first in the key
abbrev pub AreShifts : (ℕ × (ℕ × ℕ) → Option ℕ) → List Ty → Type 0
AreShifts made ts = (by : ℕ) → Remembers (shifted VarTy by) (λ k. made (by, k)) ts

-- what was made of two types by f, which has the second number's type first
abbrev pub AreMade : (Ty → Ty → Ty) → (ℕ × ℕ → Option ℕ) → List Ty → Type 0
AreMade f made ts =
    (k : ℕ × ℕ) (m : ℕ) → made k ≡ Some m →
    (k.0 < length ts) × (k.1 < length ts) × IsNumber ts (f (at ts k.1) (at ts k.0)) m

-- for a type and a set of marks, and for a code type and a tuple of types that it is applied to
abbrev pub AreMarked : (ℕ × ℕ → Option ℕ) → List Ty → Type 0
AreMarked made ts = AreMade marked made ts

abbrev pub AreApplied : (ℕ × ℕ → Option ℕ) → List Ty → Type 0
AreApplied made ts = AreMade applied made ts
