use Rattle.std.proofs.Common.{ap, ◌∙◌}
use Rattle.t_types.specs.Tree.{TupleTy}
use Rattle.t_types.proofs.Trees.{tree_Tuple}
use Rattle.t_terms.specs.Read.{data_fields as data_items}
use Rattle.t_terms.specs.Spanned.{plain_fields}
use Rattle.t_terms.specs.Labels.{data_fields}
use Rattle.t_spill.proofs.Blocks.{datum_is}
use Rattle.t_spill.proofs.typing.type_of_data.Goals as goal

pub returns : goal.returns
returns c =
    let x = c.index-tuple.result.now in
    tree_Tuple c.in_ok-fields.fields
    ∙ ap TupleTy (c.in_ok-fields.ensures ∙ ap (λ xs. data_fields (plain_fields (data_items xs))) c.deref.ensures.value)
    ∙ datum_is c.args.program.now.heap.items c.args.d x c.requires c.index-tuple.ensures
