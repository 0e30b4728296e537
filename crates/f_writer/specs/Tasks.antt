-- What is still to be written, as a list of tasks.
use Rattle.std.specs.Prelude.{◌≡◌, ℕ, ◌+◌, ◌<◌, ◌≤◌, List, [], ◌∷◌, ◌++◌, codes}
use Rattle.f_terms.specs.Ty.{Ty}
use Rattle.f_terms.specs.Tm.{Term, MVar, MNum, MFix, MApp, MGen, MInst, MTuple, MProj, MArith, MIf0, MLet, MPack}
use Rattle.f_terms.specs.Tm.{MOpen}
use Rattle.f_terms.specs.Tm.{MRef, MDeref, MAssign, Terms, NoTerms, MoreTerms}
use Rattle.f_terms.specs.Read.{tree}
use Rattle.f_terms.specs.Text.{text_at}
use Rattle.f_writer.specs.Notation.{written, fields_written, more_written, written_at}
use Rattle.f_writer.specs.Parts.{part_term, part_terms}
use Rattle.f_writer.specs.declared.line.Line.{Line}
use Rattle.f_writer.specs.declared.task.Position.{Position}
use Rattle.f_writer.specs.declared.task.Task.{Task}
use Rattle.f_writer.specs.declared.task.Task.TheVariants as task

-- a term where a line is asked for, inside n type names and m value names; fields after others; bytes; a type inside n
-- type names
pub data Todo : Type 0 where
  Write : Line → ℕ → ℕ → Term → Todo
  WriteAll : ℕ → ℕ → Terms → Todo
  Put : List ℕ → Todo
  WriteType : ℕ → Ty → Todo

abbrev pub position_todo : Position → Todo
position_todo p = Write p.line p.depths.types p.depths.values (part_term p.part)

abbrev pub todo : Task → Todo
todo (task.Term p) = position_todo p
todo (task.Fields ps depths) = WriteAll depths.types depths.values (part_terms ps)
todo (task.Bytes s) = Put s.now
todo (task.Type t depth) = WriteType depth (tree t.now)

-- what is to be done, the next first: the last of a stack of tasks
abbrev pub todos_before : List Todo → List Task → List Todo
todos_before tds [] = tds
todos_before tds (t ∷ ts) = todos_before (todo t ∷ tds) ts

abbrev pub todos : List Task → List Todo
todos ts = todos_before [] ts

-- the bytes that a task writes, and that all do
abbrev pub done : Todo → List ℕ
done (Write asked n m e) = written_at asked n m e
done (WriteAll n m es) = more_written n m es
done (Put s) = s
done (WriteType n t) = text_at n t

abbrev pub all_done : List Todo → List ℕ
all_done [] = []
all_done (t ∷ tds) = done t ++ all_done tds

-- more than the steps that a term takes: one for itself, one for its parentheses, and those that its form makes
abbrev mutual
  pub weight : Term → ℕ
  weight (MVar i) = 2
  weight (MNum z) = 2
  weight (MFix arg res e) = 2 + weight e
  weight (MApp f x) = 3 + weight f + weight x
  weight (MGen e) = 2 + weight e
  weight (MInst e t) = 5 + weight e
  weight (MTuple es) = 4 + weight_all es
  weight (MProj i e) = 2 + weight e
  weight (MArith op a b) = 3 + weight a + weight b
  weight (MIf0 c a b) = 5 + weight c + weight a + weight b
  weight (MLet a b) = 3 + weight a + weight b
  weight (MPack h e t) = 4 + weight e
  weight (MOpen a b) = 3 + weight a + weight b
  weight (MRef e) = 2 + weight e
  weight (MDeref e) = 2 + weight e
  weight (MAssign a b) = 3 + weight a + weight b

  pub weight_all : Terms → ℕ
  weight_all NoTerms = 1
  weight_all (MoreTerms e es) = 1 + weight e + weight_all es

abbrev pub steps : List Todo → ℕ
steps [] = 0
steps (Write asked n m e ∷ tds) = weight e + steps tds
steps (WriteAll n m es ∷ tds) = weight_all es + steps tds
steps (Put s ∷ tds) = 1 + steps tds
steps (WriteType n t ∷ tds) = 1 + steps tds

-- where a form is begun inside n type names and m value names: its own text, parentheses aside, comes before the rest
pub record Begun (before : List ℕ) (n m : ℕ) (e : Term) (old : List Todo) (after : List ℕ) (new : List Todo) : Type 0
  where
    pub same : after ++ all_done new ≡ before ++ (written n m e ++ all_done old)
    pub less : steps new + 2 ≤ weight e + steps old

-- fields of a tuple are to be written, and its closing bracket after them
pub record Opened (n m : ℕ) (es : Terms) (old new : List Todo) : Type 0 where
  pub same : all_done new ≡ fields_written n m es ++ codes ">" ++ all_done old
  pub less : steps new ≤ 2 + weight_all es + steps old

-- the text and what is to be done come to the same whole as before, and less is to be done
pub record Steps (before : List ℕ) (old : List Todo) (after : List ℕ) (new : List Todo) : Type 0 where
  pub same : after ++ all_done new ≡ before ++ all_done old
  pub less : steps new < steps old

-- forms that bind names; that have a type behind their part; that have parts with bytes between them
abbrev pub IsBinder : Term → Type 0
IsBinder (MFix arg res e) = Unit {0}
IsBinder (MGen e) = Unit {0}
IsBinder (MLet a b) = Unit {0}
IsBinder (MOpen a b) = Unit {0}
IsBinder _ = ⊥

abbrev pub IsTyped : Term → Type 0
IsTyped (MInst e t) = Unit {0}
IsTyped (MPack h e t) = Unit {0}
IsTyped _ = ⊥

abbrev pub IsJoined : Term → Type 0
IsJoined (MApp f x) = Unit {0}
IsJoined (MArith op a b) = Unit {0}
IsJoined (MIf0 c a b) = Unit {0}
IsJoined (MAssign a b) = Unit {0}
IsJoined _ = ⊥
