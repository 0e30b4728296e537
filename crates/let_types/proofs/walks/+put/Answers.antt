use Rattle.std.proofs.Common.{ap, ◌∙◌, sym, rules}
use Rattle.let_types.specs.Parts.{placed}
use Rattle.calc_core.specs.Read.{all_trees}
use Rattle.calc_core.specs.Types.{TupleTy, CodeTy}
use Rattle.calc_core.specs.Walks.{over, over_all}
use Rattle.calc_core.proofs.Trees.{tree_Tuple, tree_Code, tree_is_tuple, tree_is_code, made_all}
use Rattle.let_types.proofs.walks.+put.Goals as goal

pub put_types_in-returns-in_ok-ts-in-Tuple : goal.put_types_in-returns-in_ok-ts-in-Tuple
put_types_in-returns-in_ok-ts-in-Tuple t c =
    tree_Tuple c.in_ok-ts-in-Tuple.ts ∙ ap TupleTy c.in_ok-ts-in-Tuple.ensures
    ∙ ap (over (placed (all_trees c.args.types.now)) c.args.depth)
    (sym (tree_is_tuple _ _ _ c.in-Tuple.is c.deref.ensures.value))

pub put_types_in-returns-in_ok-args-in-Code : goal.put_types_in-returns-in_ok-args-in-Code
put_types_in-returns-in_ok-args-in-Code t c =
    tree_Code c.in-Code.owes c.in_ok-args-in-Code.args
    ∙ ap (CodeTy c.in-Code.owes)
    (c.in_ok-args-in-Code.ensures
    ∙ ap (λ d. over_all (placed (all_trees c.args.types.now)) d (all_trees c.deref-in-Code.result.now))
    c.in_ok-inner-in-Code.ensures)
    ∙ ap (over (placed (all_trees c.args.types.now)) c.args.depth)
    (sym (tree_is_code _ _ _ _ c.in-Code.is c.deref-in-Code.ensures.value))

pub put_types_in_all-loop-t-init : goal.put_types_in_all-loop-t-init
put_types_in_all-loop-t-init t c = search rules

pub put_types_in_all-returns : goal.put_types_in_all-returns
put_types_in_all-returns t c =
    made_all (placed (all_trees c.args.types.now)) c.args.depth c.loop-t.made.items c.args.ts.now c.loop-t.t-index
    c.loop-t.invariant c.loop-t-test.false
