use Rattle.std.proofs.Common.{rules, subst, ap, ◌∙◌, sym, arith}
use Rattle.idx_core.specs.Over.{putted, PutFitsAt, IsWord}
use Rattle.t_types.specs.declared.types.TType.TheViews.{the_lemmas}
use Rattle.t_types.specs.Tree.{VarTy, CodeTy, TupleTy, over, each, put_from, PutFits}
use Rattle.t_types.specs.Read.{tree}
use Rattle.t_types.proofs.Trees.{tree_Tuple, tree_Code, tree_is_tuple, tree_is_code, regs_have, fields_have, made_file}
use Rattle.t_types.proofs.Trees.{made_fields}
use Rattle.t_types.proofs.walks.+put.Goals as goal

pub put_type-put_regs-requires : goal.put_type-put_regs-requires
put_type-put_regs-requires t c = (
  search (rules, the_lemmas),
  (
    omega arith,
    (subst (PutFits c.args.at (tree c.args.what.now) c.args.depth)
        (tree_is_code _ _ _ _ c.in-Code.is c.deref.ensures.value) c.requires.fits).1,
  ),
)

pub put_type-put_flagged-requires : goal.put_type-put_flagged-requires
put_type-put_flagged-requires t c = (
  search (rules, the_lemmas),
  (
    omega arith,
    subst (PutFits c.args.at (tree c.args.what.now) c.args.depth)
        (tree_is_tuple _ _ _ c.in-Tuple.is c.deref-in-Tuple.ensures.value) c.requires.fits,
  ),
)

pub put_type-returns-in_ok-regs-in-Code : goal.put_type-returns-in_ok-regs-in-Code
put_type-returns-in_ok-regs-in-Code t c =
    tree_Code c.in-Code.owes (record { regs = c.in_ok-regs-in-Code.regs })
    ∙ ap (CodeTy c.in-Code.owes) c.in_ok-regs-in-Code.ensures
    ∙ ap (put_from c.args.at (tree c.args.what.now) c.args.depth)
    (sym (tree_is_code _ _ _ _ c.in-Code.is c.deref.ensures.value))

pub put_type-returns-in_ok-fs-in-Tuple : goal.put_type-returns-in_ok-fs-in-Tuple
put_type-returns-in_ok-fs-in-Tuple t c =
    tree_Tuple c.in_ok-fs-in-Tuple.fs ∙ ap TupleTy c.in_ok-fs-in-Tuple.ensures
    ∙ ap (put_from c.args.at (tree c.args.what.now) c.args.depth)
    (sym (tree_is_tuple _ _ _ c.in-Tuple.is c.deref-in-Tuple.ensures.value))

pub put_regs-loop-reg-init : goal.put_regs-loop-reg-init
put_regs-loop-reg-init t c = record {
  fits =
      regs_have (PutFitsAt each c.args.at (tree c.args.what.now)) IsWord c.args.depth c.args.regs.now c.requires.fits;
  made = search rules;
}

pub put_regs-returns : goal.put_regs-returns
put_regs-returns t c =
    made_file (putted VarTy over c.args.at (tree c.args.what.now)) c.args.depth c.loop-reg.made.items c.args.regs.now
    c.loop-reg.reg-index c.loop-reg.invariant.made c.loop-reg-test.false

pub put_flagged-loop-field-init : goal.put_flagged-loop-field-init
put_flagged-loop-field-init t c = record {
  fits =
      fields_have (PutFitsAt each c.args.at (tree c.args.what.now)) IsWord c.args.depth c.args.fs.now c.requires.fits;
  made = search rules;
}

pub put_flagged-returns : goal.put_flagged-returns
put_flagged-returns t c =
    made_fields (putted VarTy over c.args.at (tree c.args.what.now)) c.args.depth c.loop-field.made.items c.args.fs.now
    c.loop-field.field-index c.loop-field.invariant.made c.loop-field-test.false
