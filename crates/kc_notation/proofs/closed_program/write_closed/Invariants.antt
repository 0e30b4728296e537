use Rattle.std.proofs.Common.{◌≡◌, [], drop, true}
use Rattle.c_terms.specs.Read.{written}
use Rattle.let_types.specs.Known.{Known, nothing}
use Rattle.let_types.specs.KnownRead.{known}
use Rattle.kc_notation.specs.Standing.{IsPage}
use Rattle.kc_notation.specs.ClosedWalk.{Sheet, walk, blank}
use Rattle.kc_notation.proofs.closed_program.write_closed.Given as goal

-- from what is known, if types are shown, and what stands on the page the nodes that are left lead where all nodes lead
-- from the blank one
abbrev pub invariant-loop-node : goal.invariant-loop-node
invariant-loop-node l =
    (κ : Known) × (p : Sheet) × IsPage l.page p × (l.typed ≡ true → known l.known ≡ κ)
    × (walk l.typed (written (drop l.node-index l.nodes) []) κ p ≡ walk l.typed (written l.nodes []) nothing blank)
