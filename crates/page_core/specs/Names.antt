-- What the notations of the inner forms share, as bytes.
use Rattle.std.specs.Prelude.{ℕ, zero, suc, ◌+◌, ◌*◌, ◌/◌, ◌%◌, min, ℤ, pos, negsuc, List, [], ◌∷◌, ◌++◌, replicate}
use Rattle.std.specs.Prelude.{codes}
use Rattle.std.specs.Prelude.{decimal}
use Rattle.idx_core.specs.declared.arith.Op.{Op}
use Rattle.idx_core.specs.declared.arith.Op.TheVariants.{Add, Sub, Mul}
pub use Rattle.idx_core.specs.Separator.{separator}

-- the name of a value that has m names around it
abbrev pub value_name : ℕ → List ℕ
value_name m = 120 ∷ decimal m

-- how often the letters were gone through before
abbrev pub rounds : ℕ → List ℕ
rounds zero = []
rounds (suc r) = decimal (suc r)

-- the name of a type that has n type names around it: `a` to `z`, then `a1` to `z1`, and so on
abbrev pub type_name : ℕ → List ℕ
type_name n = (97 + n % 26) ∷ rounds (n / 26)

-- the names of k types from n on, with i before them
abbrev pub names_in_row : ℕ → ℕ → ℕ → List ℕ
names_in_row i n zero = []
names_in_row i n (suc k) = separator i ++ (type_name n ++ names_in_row (suc i) (n + 1) k)

-- the names of k types from n on, in brackets
abbrev pub type_names : ℕ → ℕ → List ℕ
type_names n k = codes "[" ++ (names_in_row 0 n k ++ codes "]")

-- an integer in decimal, a negative one with a tilde, as in a source
abbrev pub number : ℤ → List ℕ
number (pos n) = decimal n
number (negsuc n) = 126 ∷ decimal (suc n)

-- the margin of a line at the level n: two spaces a level, and no more than 40 levels' worth
abbrev pub margin : ℕ → List ℕ
margin n = replicate (2 * min n 40) 32

-- an operation between its operands
abbrev pub op_sign : Op → List ℕ
op_sign Add = codes " + "
op_sign Sub = codes " - "
op_sign Mul = codes " * "
