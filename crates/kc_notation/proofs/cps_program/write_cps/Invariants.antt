use Rattle.std.proofs.Common.{◌≡◌, drop, map}
use Rattle.k_terms.specs.Read.{knode}
use Rattle.kc_notation.specs.Standing.{IsPage}
use Rattle.kc_notation.specs.ClosedWalk.{Sheet, blank}
use Rattle.kc_notation.specs.CpsWalk.{walk}
use Rattle.kc_notation.proofs.cps_program.write_cps.Given as goal

-- from what stands on the page the nodes that are left lead where all nodes lead from the blank one
abbrev pub invariant-loop-node : goal.invariant-loop-node
invariant-loop-node l =
    (p : Sheet) × IsPage l.page p
    × (walk l.typed (map knode (drop l.node-index l.nodes)) p ≡ walk l.typed (map knode l.nodes) blank)
