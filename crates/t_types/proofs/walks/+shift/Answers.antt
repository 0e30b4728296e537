use Rattle.std.proofs.Common.{rules, subst, ap, ◌∙◌, sym}
use Rattle.idx_core.specs.Over.{shifted, ShiftFitsAt, IsWord}
use Rattle.t_types.specs.declared.types.TType.TheViews.{the_lemmas}
use Rattle.t_types.specs.Tree.{VarTy, CodeTy, TupleTy, shift, ShiftFits}
use Rattle.t_types.proofs.Trees.{tree_Tuple, tree_Code, tree_is_tuple, tree_is_code, regs_have, fields_have, made_file}
use Rattle.t_types.proofs.Trees.{made_fields}
use Rattle.t_types.proofs.walks.+shift.Goals as goal

pub shift_type-shift_regs-requires : goal.shift_type-shift_regs-requires
shift_type-shift_regs-requires t c = (
  search (rules, the_lemmas),
  (subst (ShiftFits c.args.by c.args.cut) (tree_is_code _ _ _ _ c.in-Code.is c.deref.ensures.value)
      c.requires.fits).1,
)

pub shift_type-shift_flagged-requires : goal.shift_type-shift_flagged-requires
shift_type-shift_flagged-requires t c = (
  search (rules, the_lemmas),
  subst (ShiftFits c.args.by c.args.cut) (tree_is_tuple _ _ _ c.in-Tuple.is c.deref-in-Tuple.ensures.value)
      c.requires.fits,
)

pub shift_type-returns-in_ok-regs-in-Code : goal.shift_type-returns-in_ok-regs-in-Code
shift_type-returns-in_ok-regs-in-Code t c =
    tree_Code c.in-Code.owes (record { regs = c.in_ok-regs-in-Code.regs })
    ∙ ap (CodeTy c.in-Code.owes) c.in_ok-regs-in-Code.ensures
    ∙ ap (shift c.args.by c.args.cut) (sym (tree_is_code _ _ _ _ c.in-Code.is c.deref.ensures.value))

pub shift_type-returns-in_ok-fs-in-Tuple : goal.shift_type-returns-in_ok-fs-in-Tuple
shift_type-returns-in_ok-fs-in-Tuple t c =
    tree_Tuple c.in_ok-fs-in-Tuple.fs ∙ ap TupleTy c.in_ok-fs-in-Tuple.ensures
    ∙ ap (shift c.args.by c.args.cut) (sym (tree_is_tuple _ _ _ c.in-Tuple.is c.deref-in-Tuple.ensures.value))

pub shift_regs-loop-reg-init : goal.shift_regs-loop-reg-init
shift_regs-loop-reg-init t c = record {
  fits = regs_have (ShiftFitsAt c.args.by) IsWord c.args.cut c.args.regs.now c.requires.fits;
  made = search rules;
}

pub shift_regs-returns : goal.shift_regs-returns
shift_regs-returns t c =
    made_file (shifted VarTy c.args.by) c.args.cut c.loop-reg.made.items c.args.regs.now c.loop-reg.reg-index
    c.loop-reg.invariant.made c.loop-reg-test.false

pub shift_flagged-loop-field-init : goal.shift_flagged-loop-field-init
shift_flagged-loop-field-init t c = record {
  fits = fields_have (ShiftFitsAt c.args.by) IsWord c.args.cut c.args.fs.now c.requires.fits;
  made = search rules;
}

pub shift_flagged-returns : goal.shift_flagged-returns
shift_flagged-returns t c =
    made_fields (shifted VarTy c.args.by) c.args.cut c.loop-field.made.items c.args.fs.now c.loop-field.field-index
    c.loop-field.invariant.made c.loop-field-test.false
