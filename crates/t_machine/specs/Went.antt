-- What a run does to the machine, in one record.
use Rattle.std.specs.Prelude.{ℕ, ◌+◌}
use Rattle.t_terms.specs.Tree.{TProg}
use Rattle.t_machine.specs.Reachable.{StopsReached}
use Rattle.t_machine.specs.Room.{LowersAlong, WantsUncovered}
use Rattle.t_machine.specs.Runs.{Stands, steps_made, RanFrom}
use Rattle.t_machine.specs.declared.machine.Machine.{Machine}
use Rattle.t_machine.specs.declared.machine.Ran.{Ran}

-- A machine x that stood for P after m steps ran, was allowed n steps, and became y: it stands for P after the steps
-- that were made; the answer is exact; what is spare went down by no more than these steps allocate; and where memory
-- was wanted, what was spare did not cover them and one more, and each tuple that is kept can be reached.
pub record Went (P : TProg) (m n : ℕ) (r : Ran) (x y : Machine) : Type 0 where
  pub stands : Stands P (m + steps_made n r) y
  pub answer : RanFrom P m n r
  pub spare : LowersAlong P m (steps_made n r) x y
  pub covered : WantsUncovered P m x r
  pub reached : StopsReached y r
