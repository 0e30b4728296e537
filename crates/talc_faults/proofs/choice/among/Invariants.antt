use Rattle.std.proofs.Common.{◌≡◌, ◌≤◌, ◌-◌, length, drop}
use Rattle.talc_faults.specs.Choice.{stands_behind}
use Rattle.talc_faults.proofs.choice.among.Given as goal

abbrev pub invariant-loop-at : goal.invariant-loop-at
invariant-loop-at l = record {
  bound : l.at ≤ length l.words;
  same : stands_behind (drop l.at l.words) l.word ≡ stands_behind l.words l.word;
}

abbrev pub decreases-loop-at : goal.decreases-loop-at
decreases-loop-at l = length l.words - l.at
