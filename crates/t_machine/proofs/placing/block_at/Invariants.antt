use Rattle.std.proofs.Common.{◌-◌, ◌<◌, ◌≤◌, length}
use Rattle.t_machine.specs.Placing.{begin_at}
use Rattle.t_machine.proofs.placing.block_at.Given as goal

abbrev pub invariant-loop-high : goal.invariant-loop-high
invariant-loop-high l = record {
  order : l.low < l.high;
  within : l.high ≤ length l.entries;
  begun : begin_at l.entries l.low ≤ l.at;
  next : l.high < length l.entries → l.at < begin_at l.entries l.high;
}

abbrev pub decreases-loop-high : goal.decreases-loop-high
decreases-loop-high l = l.high - l.low
