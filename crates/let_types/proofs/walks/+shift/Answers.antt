use Rattle.std.proofs.Common.{ap, ◌∙◌, sym, rules}
use Rattle.idx_core.specs.Over.{shifted}
use Rattle.calc_core.specs.Read.{all_trees}
use Rattle.calc_core.specs.Types.{VarTy, TupleTy, CodeTy}
use Rattle.calc_core.specs.Walks.{over, over_all}
use Rattle.calc_core.proofs.Trees.{tree_Tuple, tree_Code, tree_is_tuple, tree_is_code, made_all}
use Rattle.let_types.proofs.walks.+shift.Goals as goal

pub shift_type-returns-in_ok-ts-in-Tuple : goal.shift_type-returns-in_ok-ts-in-Tuple
shift_type-returns-in_ok-ts-in-Tuple t c =
    tree_Tuple c.in_ok-ts-in-Tuple.ts ∙ ap TupleTy c.in_ok-ts-in-Tuple.ensures
    ∙ ap (over (shifted VarTy c.args.by) c.args.cut)
    (sym (tree_is_tuple _ _ _ c.in-Tuple.is c.deref.ensures.value))

pub shift_type-returns-in_ok-args-in-Code : goal.shift_type-returns-in_ok-args-in-Code
shift_type-returns-in_ok-args-in-Code t c =
    tree_Code c.in-Code.owes c.in_ok-args-in-Code.args
    ∙ ap (CodeTy c.in-Code.owes)
    (c.in_ok-args-in-Code.ensures
    ∙ ap (λ d. over_all (shifted VarTy c.args.by) d (all_trees c.deref-in-Code.result.now))
    c.in_ok-inner-in-Code.ensures)
    ∙ ap (over (shifted VarTy c.args.by) c.args.cut)
    (sym (tree_is_code _ _ _ _ c.in-Code.is c.deref-in-Code.ensures.value))

pub shift_types-loop-t-init : goal.shift_types-loop-t-init
shift_types-loop-t-init t c = search rules

pub shift_types-returns : goal.shift_types-returns
shift_types-returns t c =
    made_all (shifted VarTy c.args.by) c.args.cut c.loop-t.made.items c.args.ts.now c.loop-t.t-index
    c.loop-t.invariant c.loop-t-test.false
