use Rattle.std.proofs.Common.{◌≡◌, ◌++◌, map, drop}
use Rattle.k_terms.specs.Read.{knode}
use Rattle.k_pass.specs.Emit.{atom_nodes}
use Rattle.k_pass.specs.Machine.{Nodes, atom}
use Rattle.k_pass.proofs.walk.put_atoms.Given as goal

abbrev pub invariant-loop-a : goal.invariant-loop-a
invariant-loop-a l = (ns : Nodes) →
    map knode l.out.items ++ atom_nodes (map atom (drop l.a-index l.done)) ns
    ≡ map knode l.fn.out.items ++ atom_nodes (map atom l.done) ns
