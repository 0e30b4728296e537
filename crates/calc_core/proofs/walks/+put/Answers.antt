use Rattle.std.proofs.Common.{rules, subst, ap, ◌∙◌, sym, arith}
use Rattle.idx_core.specs.Over.{putted, PutFitsAt, IsWord}
use Rattle.calc_core.specs.declared.types.CoreType.TheViews.{the_lemmas}
use Rattle.calc_core.specs.Types.{VarTy, TupleTy, CodeTy}
use Rattle.calc_core.specs.Walks.{over, each, put_from, PutFits}
use Rattle.calc_core.specs.Read.{tree}
use Rattle.calc_core.proofs.Trees.{tree_Tuple, tree_Code, tree_is_tuple, tree_is_code, all_have, made_all}
use Rattle.calc_core.proofs.walks.+put.Goals as goal

pub put_type-put_types-requires : goal.put_type-put_types-requires
put_type-put_types-requires t c = (
  search (rules, the_lemmas),
  (
    c.requires.deep,
    subst (PutFits c.args.at (tree c.args.what.now) c.args.depth)
        (tree_is_tuple _ _ _ c.in-Tuple.is c.deref.ensures.value) c.requires.fits,
  ),
)

pub put_type-put_types-requires-in-Code : goal.put_type-put_types-requires-in-Code
put_type-put_types-requires-in-Code t c = (
  search (rules, the_lemmas),
  (
    omega (arith, c.requires.deep),
    (subst (PutFits c.args.at (tree c.args.what.now) c.args.depth)
        (tree_is_code _ _ _ _ c.in-Code.is c.deref-in-Code.ensures.value) c.requires.fits).1,
  ),
)

pub put_type-returns-in_ok-ts-in-Tuple : goal.put_type-returns-in_ok-ts-in-Tuple
put_type-returns-in_ok-ts-in-Tuple t c =
    tree_Tuple c.in_ok-ts-in-Tuple.ts ∙ ap TupleTy c.in_ok-ts-in-Tuple.ensures
    ∙ ap (put_from c.args.at (tree c.args.what.now) c.args.depth)
    (sym (tree_is_tuple _ _ _ c.in-Tuple.is c.deref.ensures.value))

pub put_type-returns-in_ok-args-in-Code : goal.put_type-returns-in_ok-args-in-Code
put_type-returns-in_ok-args-in-Code t c =
    tree_Code c.in-Code.owes c.in_ok-args-in-Code.args ∙ ap (CodeTy c.in-Code.owes) c.in_ok-args-in-Code.ensures
    ∙ ap (put_from c.args.at (tree c.args.what.now) c.args.depth)
    (sym (tree_is_code _ _ _ _ c.in-Code.is c.deref-in-Code.ensures.value))

pub put_types-loop-t-init : goal.put_types-loop-t-init
put_types-loop-t-init t c = record {
  fits = all_have (PutFitsAt each c.args.at (tree c.args.what.now)) IsWord c.args.depth c.args.ts.now c.requires.fits;
  made = search rules;
}

pub put_types-returns : goal.put_types-returns
put_types-returns t c =
    made_all (putted VarTy over c.args.at (tree c.args.what.now)) c.args.depth c.loop-t.made.items c.args.ts.now
    c.loop-t.t-index c.loop-t.invariant.made c.loop-t-test.false
