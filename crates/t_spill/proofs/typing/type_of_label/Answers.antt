use Rattle.std.proofs.Common.{ap, ◌∙◌}
use Rattle.t_types.specs.Tree.{CodeTy}
use Rattle.t_types.proofs.Trees.{tree_Code}
use Rattle.t_spill.proofs.Blocks.{label_is}
use Rattle.t_spill.proofs.typing.type_of_label.Goals as goal

pub returns : goal.returns
returns c =
    let x = c.index-block.result.now in
    tree_Code x.owes c.in_ok-regs.regs ∙ ap (CodeTy x.owes) c.in_ok-regs.ensures
    ∙ label_is c.args.program.now.blocks.items c.args.l x c.requires c.index-block.ensures
