-- When a text is the one that is written of an assembly program.
use Rattle.std.specs.Prelude.{◌≡◌, List, ℕ}
use Rattle.t_terms.specs.Tree.{TProg}
use Rattle.t_text.specs.Text.{ReadsBack}
use Rattle.t_writer.specs.Lexeme.{render}
use Rattle.t_writer.specs.Written.{second_written}

-- The text is, byte for byte, what is written of the program in the second version of the language: a first line, the
-- data, a line each, and the blocks. It reads as the program within the limit on open constructs, places aside.
pub record IsWritten (program : TProg) (text : List ℕ) : Type 0 where
  pub is : text ≡ render (second_written program)
  pub reads : ReadsBack text program
