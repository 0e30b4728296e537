use Rattle.std.proofs.Common.{◌≡◌, take, map}
use Rattle.t_spill.proofs.Parts.{plain_tuple, spilled_tuple}
use Rattle.t_spill.proofs.program.spilled_heap.Given as goal

abbrev pub invariant-loop-tuple : goal.invariant-loop-tuple
invariant-loop-tuple l = map plain_tuple l.made.items ≡ map (spilled_tuple l.split.low) (take l.tuple-index l.heap)
