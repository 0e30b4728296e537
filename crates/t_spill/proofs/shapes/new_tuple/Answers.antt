use Rattle.std.proofs.Common.{ap, ◌∙◌}
use Rattle.t_types.specs.Tree.{TupleTy}
use Rattle.t_types.proofs.Trees.{tree_Tuple}
use Rattle.t_spill.proofs.shapes.new_tuple.Goals as goal

pub returns : goal.returns
returns c = tree_Tuple c.in_ok-fields.fields ∙ ap TupleTy c.in_ok-fields.ensures
