use Rattle.std.proofs.Common.{◌≡◌, ◌≤◌, ◌-◌, length, drop}
use Rattle.talc_faults.specs.Walk.{steps, walked}
use Rattle.talc_faults.proofs.walk.walked.Given as goal

abbrev pub invariant-loop-at : goal.invariant-loop-at
invariant-loop-at l = record {
  bound : l.at ≤ length l.text;
  same : steps l.text l.name l.w l.at (drop l.at l.text) ≡ walked l.text l.name l.wanted;
}

abbrev pub decreases-loop-at : goal.decreases-loop-at
decreases-loop-at l = length l.text - l.at
