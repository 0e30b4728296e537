use Rattle.std.proofs.Common.{length}
use Rattle.t_gen.proofs.Sets.{Taken}
use Rattle.t_gen.proofs.used.list.Given as goal

abbrev pub invariant-loop-key : goal.invariant-loop-key
invariant-loop-key l = Taken l.fn.used.offset l.fn.used.keys.keys l.left.keys l.numbers.items

abbrev pub decreases-loop-key : goal.decreases-loop-key
decreases-loop-key l = length l.left.keys
