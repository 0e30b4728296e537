use Rattle.std.proofs.Common.{[], take}
use Rattle.h_terms.specs.Nodes.{reads}
use Rattle.h_notation.specs.Values.{HaveValues}
use Rattle.h_notation.proofs.parts.texts_of_parts.Given as goal

abbrev pub invariant-loop-part : goal.invariant-loop-part
invariant-loop-part l =
    HaveValues l.pieces l.scope.types l.scope.names l.stack.items (reads [] (take l.part-index l.parts))
