use Rattle.std.proofs.Common.{◌∙◌, ap, arith}
use Rattle.c_terms.specs.C.{TCCode}
use Rattle.c_terms.specs.Read.{ctys}
use Rattle.calc_core.proofs.Trees.{tree_Code}
use Rattle.let_types.proofs.Stacking.{code_in, code_out}
use Rattle.let_types.proofs.hoisted.code_at.Goals as goal

pub returns-in_ok-args : goal.returns-in_ok-args
returns-in_ok-args c =
    let block = c.index-blocks-label.result in
    tree_Code block.owes c.in_ok-args.args
    ∙ ap (TCCode block.owes) (c.in_ok-args.ensures ∙ ap ctys c.deref.ensures.value)
    ∙ code_in c.args.blocks.now c.args.label block (omega (arith, c.if-label-blocks.true)) c.index-blocks-label.is

pub returns-else-label-blocks : goal.returns-else-label-blocks
returns-else-label-blocks c = code_out c.args.blocks.now c.args.label (omega (arith, c.if-label-blocks.false))
