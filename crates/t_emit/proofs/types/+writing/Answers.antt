use Rattle.std.proofs.Common.{ap, ◌∙◌, sym, arith}
use Rattle.std.proofs.lemmas.List.{take_all}
use Rattle.t_types.specs.Tree.{TupleTy, CodeTy, ExistsTy}
use Rattle.t_types.specs.Read.{tree}
use Rattle.t_types.proofs.Trees.{tree_Tuple, tree_Code}
use Rattle.t_gen_rules.specs.Gen.{ty, ty_args, ty_fields}
use Rattle.a_terms.specs.Tree.{AExists}
use Rattle.a_terms.specs.Read.{atree, atrees, afields}
use Rattle.a_terms.specs.ReadLaws.{is_tuple, is_code}
use Rattle.t_emit.proofs.Written.{args_push, written_push}
use Rattle.t_emit.proofs.types.+writing.Goals as goal

pub written-returns-in_ok-parts-in-Tuple : goal.written-returns-in_ok-parts-in-Tuple
written-returns-in_ok-parts-in-Tuple t c = tree_Tuple c.in_ok-parts-in-Tuple.parts
    ∙ ap TupleTy c.in_ok-parts-in-Tuple.ensures ∙ ap ty (sym (is_tuple _ _ _ c.in-Tuple.is c.deref.ensures.value))

pub written-returns-in_ok-regs-in-Code : goal.written-returns-in_ok-regs-in-Code
written-returns-in_ok-regs-in-Code t c =
    tree_Code c.in-Code.owes _ ∙ ap (CodeTy c.in-Code.owes) c.in_ok-regs-in-Code.ensures
    ∙ ap ty (sym (is_code _ _ _ _ c.in-Code.is c.deref-in-Code.ensures.value))

pub written-returns-in_ok-new-in-Exists : goal.written-returns-in_ok-new-in-Exists
written-returns-in_ok-new-in-Exists t c =
    ap (λ x. ExistsTy (tree x)) c.in_ok-new-in-Exists.ensures.ok ∙ ap ExistsTy c.in_ok-inside-in-Exists.ensures
    ∙ ap (λ x. ty (AExists (atree x))) c.deref-in-Exists.ensures ∙ ap (λ x. ty (atree x)) (sym c.in-Exists.is)

pub written_args-loop-t-preserved : goal.written_args-loop-t-preserved
written_args-loop-t-preserved m c = record {
  at = omega (arith, c.loop-t.invariant.at);
  made = args_push _ _ _ c.args.ts.now c.loop-t.t-index c.t-item.result _ c.loop-t.invariant.at c.loop-t-test.true
      c.t-item.is c.in_ok-push.ensures.items c.in_ok-one.ensures c.loop-t.invariant.made;
}

pub written_args-returns : goal.written_args-returns
written_args-returns t c =
    c.loop-t.invariant.made
    ∙ ap (λ xs. ty_args (atrees xs) 1) (take_all c.loop-t.t-index c.args.ts.now c.loop-t-test.false)

pub written_fields-loop-t-preserved : goal.written_fields-loop-t-preserved
written_fields-loop-t-preserved m c =
    written_push _ _ c.args.ts.now c.loop-t.t-index c.t-item.result _ c.loop-t-test.true c.t-item.is
    c.in_ok-push.ensures.items c.in_ok-one.ensures c.loop-t.invariant

pub written_fields-returns : goal.written_fields-returns
written_fields-returns t c =
    c.loop-t.invariant
    ∙ ap (λ xs. ty_fields (afields xs)) (take_all c.loop-t.t-index c.args.ts.now c.loop-t-test.false)
