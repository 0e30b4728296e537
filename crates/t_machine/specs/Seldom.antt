-- Memory for a run that executes no place often: so many times the `malloc`s of the program, and their fields.
use Rattle.std.specs.Prelude.{ℕ, ◌+◌, ◌*◌, ◌≤◌, List, [], ◌∷◌, length, Option, Some, None}
use Rattle.t_terms.specs.Tree.{TInstr, Malloc, TSeq, Then, Ends, TBlock, TProg}
use Rattle.t_rules.specs.Machine.{State, Place, After}
use Rattle.t_rules.specs.Times.{Times}
use Rattle.t_machine.specs.Room.{tuples_wanted, fields_wanted, Covers}

-- the number of fields of the tuple that an instruction of a program allocates, if it is a `malloc`
abbrev pub asked_by : TInstr → Option ℕ
asked_by (Malloc rd ts) = Some (length ts)
asked_by other = None

-- what the instructions of a program want, each once, where f says what one wants that asks for this
module _ (f : Option ℕ → ℕ) where
  abbrev pub seq_wants : TSeq → ℕ
  seq_wants (Then i rest) = f (asked_by i) + seq_wants rest
  seq_wants (Ends e) = 0

  abbrev pub blocks_want : List TBlock → ℕ
  blocks_want [] = 0
  blocks_want (b ∷ bs) = seq_wants b.code + blocks_want bs

-- how many `malloc`s a program has, and how many fields all of them have
abbrev pub mallocs : TProg → ℕ
mallocs P = blocks_want tuples_wanted P.blocks

abbrev pub malloc_fields : TProg → ℕ
malloc_fields P = blocks_want fields_wanted P.blocks

-- no place of P is executed more than n times, in however many steps
abbrev pub RunsAtMost : TProg → ℕ → Type 0
RunsAtMost P n =
    (m : ℕ) (s : State) (p : Place) (run : After P m s p) (block index : ℕ) → Times P m s p run block index ≤ n

-- then any number of steps from the start is covered by n times the `malloc`s of P, and n times their fields
abbrev pub SeldomRunsAreCovered : Type 0
SeldomRunsAreCovered =
    (P : TProg) (n : ℕ) → RunsAtMost P n → (t f : ℕ) → n * mallocs P ≤ t → n * malloc_fields P ≤ f →
    (k : ℕ) → Covers P 0 k t f
