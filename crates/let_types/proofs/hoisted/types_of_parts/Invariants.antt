use Rattle.std.proofs.Common.{[], take}
use Rattle.h_terms.specs.Nodes.{h_blocks, reads}
use Rattle.let_types.specs.Hoisted.{AreOf}
use Rattle.let_types.specs.Names.{scope}
use Rattle.let_types.proofs.hoisted.types_of_parts.Given as goal

abbrev pub invariant-loop-part : goal.invariant-loop-part
invariant-loop-part l =
    AreOf (h_blocks l.blocks) (scope l.types l.names) l.stack.items (reads [] (take l.part-index l.parts))
