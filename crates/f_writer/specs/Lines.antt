-- The lines of the grammar of terms, and where a form takes parentheses.
use Rattle.std.specs.Prelude.{ℕ, nat_lt, Bool}
use Rattle.idx_core.specs.declared.arith.Op.{Op}
use Rattle.idx_core.specs.declared.arith.Op.TheVariants.{Add, Sub, Mul}
use Rattle.f_terms.specs.Tm.{Term, MVar, MNum, MFix, MApp, MGen, MInst, MTuple, MProj, MArith, MIf0, MLet, MPack}
use Rattle.f_terms.specs.Tm.{MOpen}
use Rattle.f_terms.specs.Tm.{MRef, MDeref, MAssign}
use Rattle.f_terms.specs.declared.node.FShape.{FShape}
use Rattle.f_terms.specs.declared.node.FShape.TheVariants as shape
use Rattle.f_writer.specs.declared.line.Line.{Line}
use Rattle.f_writer.specs.declared.line.Line.TheVariants.{Expression, Sum, Product, Call, Primary}

-- how close the forms of a line bind
abbrev pub strength : Line → ℕ
strength Expression = 0
strength Sum = 1
strength Product = 2
strength Call = 3
strength Primary = 4

-- a form of a line takes parentheses where a line is asked for whose forms bind closer
abbrev pub is_loose : Line → Line → Bool
is_loose line asked = nat_lt (strength line) (strength asked)

-- the line of an operation, which its left operand is of too, and that of its right operand: they group to the left
abbrev pub op_line : Op → Line
op_line Add = Sum
op_line Sub = Sum
op_line Mul = Product

abbrev pub right_line : Op → Line
right_line Add = Product
right_line Sub = Product
right_line Mul = Call

-- the line of a term, by its outermost form
abbrev pub line_of : Term → Line
line_of (MVar i) = Primary
line_of (MNum z) = Primary
line_of (MFix arg res e) = Expression
line_of (MApp f x) = Call
line_of (MGen e) = Expression
line_of (MInst e t) = Call
line_of (MTuple es) = Primary
line_of (MProj i e) = Primary
line_of (MArith op a b) = op_line op
line_of (MIf0 c a b) = Primary
line_of (MLet a b) = Expression
line_of (MPack h e t) = Expression
line_of (MOpen a b) = Expression
line_of (MRef e) = Primary
line_of (MDeref e) = Primary
line_of (MAssign a b) = Expression

-- the same by the form of a node
abbrev pub shape_line : FShape → Line
shape_line (shape.Var i) = Primary
shape_line (shape.Int z) = Primary
shape_line (shape.Fix a r e) = Expression
shape_line (shape.App f x) = Call
shape_line (shape.Gen e) = Expression
shape_line (shape.Inst e t) = Call
shape_line (shape.Tuple es) = Primary
shape_line (shape.Proj i e) = Primary
shape_line (shape.Arith op a b) = op_line op
shape_line (shape.If0 c a b) = Primary
shape_line (shape.Let a b) = Expression
shape_line (shape.Pack h e t) = Expression
shape_line (shape.Open a b) = Expression
shape_line (shape.Ref e) = Primary
shape_line (shape.Deref e) = Primary
shape_line (shape.Assign a b) = Expression
