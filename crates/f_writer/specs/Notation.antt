-- The canonical text of a term. A value name is `x` and the number of value names around its binder, a type name `t`
-- and the number of type names; in `fix x0(x1: ..)` the function is bound first. Parentheses stand only where the
-- grammar asks for them, a line ends behind each `in`, and wherever else there is a gap it is one space.
use Rattle.std.specs.Prelude.{ℕ, suc, ◌+◌, ◌-◌, ℤ, pos, negsuc, List, [], ◌++◌, Bool, true, false, codes}
use Rattle.std.specs.Prelude.{decimal}
use Rattle.idx_core.specs.declared.arith.Op.{Op}
use Rattle.idx_core.specs.declared.arith.Op.TheVariants.{Add, Sub, Mul}
use Rattle.f_terms.specs.Text.{name_text, text_at}
use Rattle.f_terms.specs.Tm.{Term, MVar, MNum, MFix, MApp, MGen, MInst, MTuple, MProj, MArith, MIf0, MLet, MPack}
use Rattle.f_terms.specs.Tm.{MOpen}
use Rattle.f_terms.specs.Tm.{MRef, MDeref, MAssign, Terms, NoTerms, MoreTerms}
use Rattle.f_writer.specs.declared.line.Line.{Line}
use Rattle.f_writer.specs.declared.line.Line.TheVariants.{Sum, Call, Primary}
use Rattle.f_writer.specs.Lines.{is_loose, op_line, right_line, line_of}

-- the name of the value that is bound inside m value names. That of a type inside n type names is `name_text n`
abbrev pub value_text : ℕ → List ℕ
value_text m = codes "x" ++ decimal m

-- an integer, a negative one with a tilde
abbrev pub integer_text : ℤ → List ℕ
integer_text (pos n) = decimal n
integer_text (negsuc n) = codes "~" ++ decimal (suc n)

abbrev pub op_text : Op → List ℕ
op_text Add = codes " + "
op_text Sub = codes " - "
op_text Mul = codes " * "

-- in parentheses where they are needed
abbrev pub wrapped : Bool → List ℕ → List ℕ
wrapped true s = codes "(" ++ s ++ codes ")"
wrapped false s = s

-- the text inside n type names and m value names: the variable i is that with i others between. A type is written as
-- the text of a type is (`f_terms`)
abbrev mutual
  pub written : ℕ → ℕ → Term → List ℕ
  written n m (MVar i) = value_text (m - 1 - i)
  written n m (MNum z) = integer_text z
  written n m (MFix arg res e) =
      codes "fix " ++ value_text m ++ codes "(" ++ value_text (m + 1) ++ codes ": " ++ text_at n arg ++ codes "): "
      ++ text_at n res ++ codes ". " ++ written n (m + 2) e
  written n m (MApp f x) =
      wrapped (is_loose (line_of f) Call) (written n m f) ++ codes " "
      ++ wrapped (is_loose (line_of x) Primary) (written n m x)
  written n m (MGen e) = codes "gen " ++ name_text n ++ codes ". " ++ written (n + 1) m e
  written n m (MInst e t) =
      wrapped (is_loose (line_of e) Call) (written n m e) ++ codes "[" ++ text_at n t ++ codes "]"
  written n m (MTuple es) = codes "<" ++ fields_written n m es ++ codes ">"
  written n m (MProj i e) =
      codes "#" ++ decimal i ++ codes " " ++ wrapped (is_loose (line_of e) Primary) (written n m e)
  written n m (MArith op a b) =
      wrapped (is_loose (line_of a) (op_line op)) (written n m a) ++ op_text op
      ++ wrapped (is_loose (line_of b) (right_line op)) (written n m b)
  written n m (MIf0 c a b) =
      codes "if0(" ++ written n m c ++ codes ", " ++ written n m a ++ codes ", " ++ written n m b ++ codes ")"
  written n m (MLet a b) =
      codes "let " ++ value_text m ++ codes " = " ++ written n m a ++ codes " in\n" ++ written n (m + 1) b
  written n m (MPack h e t) =
      codes "pack[" ++ text_at n h ++ codes ", " ++ written n m e ++ codes "] as " ++ text_at n t
  written n m (MOpen a b) =
      codes "open [" ++ name_text n ++ codes ", " ++ value_text m ++ codes "] = " ++ written n m a ++ codes " in\n"
      ++ written (n + 1) (m + 1) b
  written n m (MRef e) = codes "ref " ++ wrapped (is_loose (line_of e) Primary) (written n m e)
  written n m (MDeref e) = codes "!" ++ wrapped (is_loose (line_of e) Primary) (written n m e)
  written n m (MAssign a b) =
      wrapped (is_loose (line_of a) Sum) (written n m a) ++ codes " := "
      ++ wrapped (is_loose (line_of b) Sum) (written n m b)

  -- fields, with commas between them
  pub fields_written : ℕ → ℕ → Terms → List ℕ
  fields_written n m NoTerms = []
  fields_written n m (MoreTerms e es) = written n m e ++ more_written n m es

  -- fields after others
  pub more_written : ℕ → ℕ → Terms → List ℕ
  more_written n m NoTerms = []
  more_written n m (MoreTerms e es) = codes ", " ++ written n m e ++ more_written n m es

-- a term where a line is asked for
abbrev pub written_at : Line → ℕ → ℕ → Term → List ℕ
written_at asked n m e = wrapped (is_loose (line_of e) asked) (written n m e)

-- the text of a term with no names around it
abbrev pub term_text : Term → List ℕ
term_text e = written 0 0 e ++ codes "\n"
