use Rattle.std.proofs.Common.{◌≡◌, take}
use Rattle.t_emit.specs.Code.{seen}
use Rattle.t_emit.proofs.values.moved.Given as goal

abbrev pub invariant-loop-i : goal.invariant-loop-i
invariant-loop-i l = l.now ≡ seen (take l.i l.saved) l.r
