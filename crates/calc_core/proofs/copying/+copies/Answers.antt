use Rattle.std.proofs.Common.{ap, ◌∙◌, sym}
use Rattle.calc_core.specs.Types.{TupleTy, CodeTy}
use Rattle.calc_core.proofs.Trees.{tree_Tuple, tree_Code, tree_is_tuple, tree_is_code, all_copied}
use Rattle.calc_core.proofs.copying.+copies.Goals as goal

pub copy-returns-in_ok-ts-in-Tuple : goal.copy-returns-in_ok-ts-in-Tuple
copy-returns-in_ok-ts-in-Tuple t c =
    tree_Tuple c.in_ok-ts-in-Tuple.ts ∙ ap TupleTy c.in_ok-ts-in-Tuple.ensures
    ∙ sym (tree_is_tuple _ _ _ c.in-Tuple.is c.deref.ensures.value)

pub copy-returns-in_ok-args-in-Code : goal.copy-returns-in_ok-args-in-Code
copy-returns-in_ok-args-in-Code t c =
    tree_Code c.in-Code.owes c.in_ok-args-in-Code.args ∙ ap (CodeTy c.in-Code.owes) c.in_ok-args-in-Code.ensures
    ∙ sym (tree_is_code _ _ _ _ c.in-Code.is c.deref-in-Code.ensures.value)

pub copy_all-returns : goal.copy_all-returns
copy_all-returns t c =
    all_copied c.loop-t.made.items c.args.ts.now c.loop-t.t-index c.loop-t.invariant c.loop-t-test.false
