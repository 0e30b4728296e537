use Rattle.std.proofs.Common.{◌≡◌, [], drop, map}
use Rattle.c_rules.specs.Emit as E
use Rattle.k_terms.specs.Read.{knode}
use Rattle.c_emit.specs.Read.{frame, infos_of, notes_of}
use Rattle.c_emit.specs.Walked.{walked}
use Rattle.c_emit.proofs.emit.emit.Given as goal

abbrev pub invariant-loop-node : goal.invariant-loop-node
invariant-loop-node l = walked l.walk (map knode (drop l.node-index l.nodes))
    ≡ E.emit (map knode l.nodes) (frame l.fn.top) [] (infos_of l.fn.infos.items) (notes_of l.fn.notes.items)
