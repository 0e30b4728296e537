use Rattle.std.proofs.Common.{subst, rules}
use Rattle.idx_core.specs.Over.{shifted, ShiftFitsAt, IsWord}
use Rattle.f_terms.specs.Ty.{TVar, ShiftFits}
use Rattle.f_terms.proofs.Trees.{each_tys, tree_parts, made_tuple}
use Rattle.f_terms.proofs.shift.+shift_type.Goals as goal

pub loop-part-init : goal.loop-part-init
loop-part-init t c =
    let whole = tree_parts _ _ _ c.in-Tuple.is c.deref-part-items.ensures.value in
    record {
      fits = each_tys (ShiftFitsAt c.args.by) IsWord c.args.cut _
          (subst (ShiftFits c.args.by c.args.cut) whole c.requires);
      made = search rules;
    }

pub returns-after-loop-part : goal.returns-after-loop-part
returns-after-loop-part t c =
    let whole = tree_parts _ _ _ c.in-Tuple.is c.deref-part-items.ensures.value in
    made_tuple (shifted TVar c.args.by) c.args.cut _ c.loop-part.parts _ _ whole c.loop-part.invariant.made
    c.loop-part-test.false
