use Rattle.std.proofs.Common.{◌∷◌, [], drop, length}
use Rattle.t_terms.specs.Read.{blocks_of}
use Rattle.t_gen.specs.Filling.{finish}
use Rattle.a_terms.specs.Program.{program_in}
use Rattle.t_gen.specs.Uses.{Told, back}
use Rattle.t_gen.specs.Pending.{start_job}
use Rattle.t_gen.proofs.Walking.{Walked}
use Rattle.t_gen.proofs.body.emit_body.Given as goal

abbrev pub invariant-loop-node : goal.invariant-loop-node
invariant-loop-node l = record {
  told : Told (drop l.node-index l.nodes) (back l.aheads.items);
  walked : Walked (program_in l.program) (drop l.node-index l.nodes) l.walk.vars.items l.walk.places.items l.out.items
      l.walk.code.items
      (finish (program_in l.program) (length (blocks_of l.fn.out.items)) (blocks_of l.fn.out.items)
      (start_job l.fn.start l.nodes ∷ []));
}
