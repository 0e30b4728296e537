use Rattle.std.proofs.Common.{length, take, []}
use Rattle.h_terms.specs.Nodes.{h_blocks, reads}
use Rattle.a_pass.specs.Scope.{knowns, scope}
use Rattle.a_pass.specs.Emits.{Made}
use Rattle.a_pass.proofs.run.read.Given as goal

abbrev pub invariant-loop-one : goal.invariant-loop-one
invariant-loop-one l =
    Made (h_blocks l.around.blocks.now) (scope l.around.binders l.around.names.now) (knowns l.around.names.now)
    (length l.fn.tuples.items) l.depth (reads [] (take l.one-index l.parts)) l.fn.out.items l.fn.tuples.items
    l.run.values.items l.run.types.items l.run.depth l.out.items l.tuples.items
