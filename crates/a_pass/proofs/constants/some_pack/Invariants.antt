use Rattle.std.proofs.Common.{◌≡◌, take, false}
use Rattle.a_terms.specs.Tree.{AVal}
use Rattle.a_terms.specs.NodeTrees.{wrapped}
use Rattle.a_laws.specs.Allocate.{is_pack}
use Rattle.a_pass.proofs.constants.some_pack.Given as goal

abbrev pub invariant-loop-wrap : goal.invariant-loop-wrap
invariant-loop-wrap l = (v : AVal) → is_pack v ≡ false → is_pack (wrapped v (take l.wrap-index l.wraps)) ≡ false
