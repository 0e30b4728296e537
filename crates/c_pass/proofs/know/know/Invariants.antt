use Rattle.std.proofs.Common.{◌≡◌, [], drop, map}
use Rattle.c_rules.specs.Know as W
use Rattle.k_terms.specs.Read.{knode}
use Rattle.c_laws.specs.Walks.{top_side}
use Rattle.c_pass.specs.Read.{clues_of, told_known, total}
use Rattle.c_pass.proofs.know.know.Given as goal

abbrev pub invariant-loop-node : goal.invariant-loop-node
invariant-loop-node l = total l.walk (map knode (drop l.node-index l.nodes)) ≡ told_known
    (W.know (map knode l.nodes) [] top_side [] (clues_of l.fn.clues.items))
