use Rattle.std.proofs.Common.{rules, subst, ap, ◌∙◌, sym}
use Rattle.idx_core.specs.Over.{shifted, ShiftFitsAt, IsWord}
use Rattle.calc_core.specs.declared.types.CoreType.TheViews.{the_lemmas}
use Rattle.calc_core.specs.Types.{VarTy, TupleTy, CodeTy}
use Rattle.calc_core.specs.Walks.{shift, ShiftFits}
use Rattle.calc_core.proofs.Trees.{tree_Tuple, tree_Code, tree_is_tuple, tree_is_code, all_have, made_all}
use Rattle.calc_core.proofs.walks.+shift.Goals as goal

pub shift_type-shift_types-requires : goal.shift_type-shift_types-requires
shift_type-shift_types-requires t c = (
  search (rules, the_lemmas),
  subst (ShiftFits c.args.by c.args.cut) (tree_is_tuple _ _ _ c.in-Tuple.is c.deref.ensures.value) c.requires,
)

pub shift_type-shift_types-requires-in-Code : goal.shift_type-shift_types-requires-in-Code
shift_type-shift_types-requires-in-Code t c = (
  search (rules, the_lemmas),
  (subst (ShiftFits c.args.by c.args.cut) (tree_is_code _ _ _ _ c.in-Code.is c.deref-in-Code.ensures.value)
      c.requires).1,
)

pub shift_type-returns-in_ok-ts-in-Tuple : goal.shift_type-returns-in_ok-ts-in-Tuple
shift_type-returns-in_ok-ts-in-Tuple t c =
    tree_Tuple c.in_ok-ts-in-Tuple.ts ∙ ap TupleTy c.in_ok-ts-in-Tuple.ensures
    ∙ ap (shift c.args.by c.args.cut) (sym (tree_is_tuple _ _ _ c.in-Tuple.is c.deref.ensures.value))

pub shift_type-returns-in_ok-args-in-Code : goal.shift_type-returns-in_ok-args-in-Code
shift_type-returns-in_ok-args-in-Code t c =
    tree_Code c.in-Code.owes c.in_ok-args-in-Code.args ∙ ap (CodeTy c.in-Code.owes) c.in_ok-args-in-Code.ensures
    ∙ ap (shift c.args.by c.args.cut) (sym (tree_is_code _ _ _ _ c.in-Code.is c.deref-in-Code.ensures.value))

pub shift_types-loop-t-init : goal.shift_types-loop-t-init
shift_types-loop-t-init t c = record {
  fits = all_have (ShiftFitsAt c.args.by) IsWord c.args.cut c.args.ts.now c.requires;
  made = search rules;
}

pub shift_types-returns : goal.shift_types-returns
shift_types-returns t c =
    made_all (shifted VarTy c.args.by) c.args.cut c.loop-t.made.items c.args.ts.now c.loop-t.t-index
    c.loop-t.invariant.made c.loop-t-test.false
