use Rattle.std.proofs.Common.{◌≡◌, ◌≤◌, ◌+◌, ◌-◌, length, drop}
use Rattle.talc_faults.specs.Walk.{gap_size}
use Rattle.talc_faults.proofs.walk.gap_size.Given as goal

abbrev pub invariant-loop-size : goal.invariant-loop-size
invariant-loop-size l = record {
  bound : l.size ≤ length l.bytes;
  same : gap_size l.bytes ≡ l.size + gap_size (drop l.size l.bytes);
}

abbrev pub decreases-loop-size : goal.decreases-loop-size
decreases-loop-size l = length l.bytes - l.size
