-- What the steps of `cost` do.
use Rattle.std.specs.Prelude.{ℕ, ◌+◌, List}
use Rattle.t_terms.specs.Spanned.{SProg}
use Rattle.t_terms.specs.Tree.{TProg}
use Rattle.t_machine.specs.Runs.{RanFrom, IsPlaceAfter, steps_made}
use Rattle.t_machine.specs.Tables.{AreCounts}
use Rattle.t_machine.specs.declared.machine.Ran.{Ran}
use Rattle.talc_core.specs.declared.reply.Ending.{Ending}
use Rattle.talc_core.specs.declared.reply.Ending.TheVariants.{Ends, GoesOn}
use Rattle.talc_core.specs.Costed.{HaltedCost, RunningCost}

-- A first run of the program, which was allowed so many steps, ended so, and at a place of this index in its block.
-- These are the times that it executed each place.
pub record IsCounted (P : TProg) (fuel : ℕ) (ran : Ran) (index : ℕ) (counts : List ℕ) : Type 0 where
  pub told : RanFrom P 0 fuel ran
  pub block : ℕ
  pub place : IsPlaceAfter P (0 + steps_made fuel ran) block index
  pub times : AreCounts P (steps_made fuel ran) (0 + steps_made fuel ran) counts

-- what is shown, by how the command ends
abbrev pub CostShown : ℕ → List ℕ → SProg → Ending → List ℕ → Type 0
CostShown fuel text program Ends lines = HaltedCost fuel text program lines
CostShown fuel text program GoesOn lines = RunningCost fuel text program lines
