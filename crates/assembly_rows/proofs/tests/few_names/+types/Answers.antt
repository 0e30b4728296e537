use Rattle.std.proofs.Common.{sym, subst, arith}
use Rattle.t_types.proofs.Trees.{tree_is_tuple, tree_is_code}
use Rattle.assembly_rows.specs.FewNames.{FewInType}
use Rattle.assembly_rows.proofs.tests.few_names.+types.Goals as goal

pub few_in_type-returns-in-Tuple : goal.few_in_type-returns-in-Tuple
few_in_type-returns-in-Tuple t c =
    let e = tree_is_tuple _ _ _ c.in-Tuple.is c.deref-in-Tuple.ensures.value in (
      λ h. subst (FewInType c.args.k) (sym e) (c.few_in_fields.ensures.0 h),
      λ h. c.few_in_fields.ensures.1 (subst (FewInType c.args.k) e h),
    )

pub few_in_type-returns-then-owes-k : goal.few_in_type-returns-then-owes-k
few_in_type-returns-then-owes-k t c =
    let e = tree_is_code _ _ _ _ c.in-Code.is c.deref.ensures.value in (
      λ h. subst (FewInType c.args.k) (sym e) (omega (arith, c.if-owes-k.true), c.few_in_file.ensures.0 h),
      λ h. c.few_in_file.ensures.1 (subst (FewInType c.args.k) e h).1,
    )
