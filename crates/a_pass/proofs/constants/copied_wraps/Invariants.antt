use Rattle.std.proofs.Common.{◌≡◌, take}
use Rattle.a_terms.specs.Tree.{AVal}
use Rattle.a_terms.specs.NodeTrees.{wrapped}
use Rattle.a_pass.proofs.constants.copied_wraps.Given as goal

abbrev pub invariant-loop-wrap : goal.invariant-loop-wrap
invariant-loop-wrap l = (v : AVal) → wrapped v l.made.items ≡ wrapped v (take l.wrap-index l.wraps)
