use Rattle.std.proofs.Common.{ap, ◌∙◌, sym}
use Rattle.t_types.specs.Tree.{CodeTy, TupleTy}
use Rattle.t_types.proofs.Trees.{tree_Tuple, tree_Code, tree_is_tuple, tree_is_code, copied_file, copied_fields}
use Rattle.t_types.proofs.copying.+copies.Goals as goal

pub copy-returns-in_ok-regs-in-Code : goal.copy-returns-in_ok-regs-in-Code
copy-returns-in_ok-regs-in-Code t c =
    tree_Code c.in-Code.owes (record { regs = c.in_ok-regs-in-Code.regs })
    ∙ ap (CodeTy c.in-Code.owes) c.in_ok-regs-in-Code.ensures
    ∙ sym (tree_is_code _ _ _ _ c.in-Code.is c.deref.ensures.value)

pub copy-returns-in_ok-fs-in-Tuple : goal.copy-returns-in_ok-fs-in-Tuple
copy-returns-in_ok-fs-in-Tuple t c =
    tree_Tuple c.in_ok-fs-in-Tuple.fs ∙ ap TupleTy c.in_ok-fs-in-Tuple.ensures
    ∙ sym (tree_is_tuple _ _ _ c.in-Tuple.is c.deref-in-Tuple.ensures.value)

pub copy_regs-returns : goal.copy_regs-returns
copy_regs-returns t c =
    copied_file c.loop-reg.made.items c.args.regs.now c.loop-reg.reg-index c.loop-reg.invariant c.loop-reg-test.false

pub copy_flagged-returns : goal.copy_flagged-returns
copy_flagged-returns t c =
    copied_fields c.loop-field.made.items c.args.fs.now c.loop-field.field-index c.loop-field.invariant
    c.loop-field-test.false
