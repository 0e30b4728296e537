use Rattle.std.proofs.Common.{subst, rules}
use Rattle.idx_core.specs.Over.{putted, PutFitsAt, IsWord}
use Rattle.f_terms.specs.Ty.{TVar, over, each, PutFits}
use Rattle.f_terms.specs.Read.{tree}
use Rattle.f_terms.proofs.Trees.{each_tys, tree_parts, made_tuple}
use Rattle.f_terms.proofs.shift.+put_type.Goals as goal

pub loop-part-init : goal.loop-part-init
loop-part-init t c =
    let whole = tree_parts _ _ _ c.in-Tuple.is c.deref-part-items.ensures.value in
    let what = tree c.args.what.now in
    record {
      fits = each_tys (PutFitsAt each c.args.at what) IsWord c.args.depth _
          (subst (PutFits c.args.at what c.args.depth) whole c.requires.fits);
      made = search rules;
    }

pub returns-after-loop-part : goal.returns-after-loop-part
returns-after-loop-part t c =
    let whole = tree_parts _ _ _ c.in-Tuple.is c.deref-part-items.ensures.value in
    made_tuple (putted TVar over c.args.at (tree c.args.what.now)) c.args.depth _ c.loop-part.parts _ _ whole
    c.loop-part.invariant.made c.loop-part-test.false
