-- The nodes that are codes.
use Rattle.std.specs.Prelude.{Bool, true, false}
use Rattle.k_terms.specs.declared.node.KNode.{KNode}
use Rattle.k_terms.specs.declared.node.KNode.TheVariants as N

abbrev pub code_node : KNode → Bool
code_node (N.Code level depth owes args) = true
code_node _ = false
