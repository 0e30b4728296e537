use Rattle.std.proofs.Common.{sym, subst}
use Rattle.t_types.proofs.Trees.{tree_is_tuple, tree_is_code}
use Rattle.t_spill_laws.specs.Bound.{InType}
use Rattle.t_spill.proofs.within.+types.Goals as goal

pub type_within-returns-in-Code : goal.type_within-returns-in-Code
type_within-returns-in-Code t c =
    let e = tree_is_code _ _ _ _ c.in-Code.is c.deref.ensures.value in (
      λ h. subst (InType c.args.k) (sym e) (c.file_within.ensures.0 h),
      λ h. c.file_within.ensures.1 (subst
          (InType c.args.k) e h),
    )

pub type_within-returns-in-Tuple : goal.type_within-returns-in-Tuple
type_within-returns-in-Tuple t c =
    let e = tree_is_tuple _ _ _ c.in-Tuple.is c.deref-in-Tuple.ensures.value in (
      λ h. subst (InType c.args.k) (sym e) (c.fields_within.ensures.0 h),
      λ h. c.fields_within.ensures.1 (subst
          (InType c.args.k) e h),
    )
