-- What `cost` shows of an assembly program: what its run made, and behind it what `run` shows.
use Rattle.std.specs.Prelude.{◌≡◌, ◌≤◌, ◌++◌, ℕ, ℤ, List}
use Rattle.t_terms.specs.Spanned.{SProg, plain_program}
use Rattle.t_rules.specs.Machine.{State, Spot, After, HaltedAfter, GoesOnAfter}
use Rattle.t_rules.specs.Times.{Times}
use Rattle.t_machine.specs.Tables.{table}
use Rattle.cost_page.specs.Page.{page}
use Rattle.talc_core.specs.Lines.{integer_line, more_instructions_line}

-- The page of the first m steps of the program of a text: it is told by how often each place is executed in these
-- steps, and by the place at which they end.
pub record IsCost (text : List ℕ) (program : SProg) (m : ℕ) (lines : List ℕ) : Type 0 where
  pub state : State
  pub block : ℕ
  pub index : ℕ
  pub run : After (plain_program program) m state (Spot block index)
  pub is : lines ≡ page text program m index
      (table (Times (plain_program program) m state (Spot block index) run) (plain_program program))

-- the program halts after at most `fuel` steps; the page of these, and the line of its integer
pub record HaltedCost (fuel : ℕ) (text : List ℕ) (program : SProg) (lines : List ℕ) : Type 0 where
  pub steps : ℕ
  pub value : ℤ
  pub shown : List ℕ
  pub within : steps ≤ fuel
  pub halted : HaltedAfter (plain_program program) steps value
  pub made : IsCost text program steps shown
  pub is : lines ≡ shown ++ integer_line value

-- the program goes on after `fuel` steps; the page of these, and the line that it goes on
pub record RunningCost (fuel : ℕ) (text : List ℕ) (program : SProg) (lines : List ℕ) : Type 0 where
  pub shown : List ℕ
  pub goes_on : GoesOnAfter (plain_program program) fuel
  pub made : IsCost text program fuel shown
  pub is : lines ≡ shown ++ more_instructions_line fuel
