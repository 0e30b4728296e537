use Rattle.std.proofs.Common.{ap, ◌∙◌, sym, true, List, [], ◌∷◌, ◌++◌, Bool}
use Rattle.std.proofs.lemmas.List.{take_all}
use Rattle.idx_core.specs.Over.{shifted}
use Rattle.c_terms.specs.C.{TCRef}
use Rattle.c_terms.specs.Read.{ctree, ctys}
use Rattle.a_terms.specs.declared.types.AType.{AType}
use Rattle.a_terms.specs.Tree as a
use Rattle.a_terms.specs.Tree.{AVar, over, over_types, over_fields}
use Rattle.a_terms.specs.Read.{atree, afields}
use Rattle.a_terms.specs.ReadLaws.{a_tuple, a_code, at_types, at_type}
use Rattle.a_terms.specs.Typing.{aset}
use Rattle.a_laws.specs.Allocate.{atype, atypes}
use Rattle.calc_core.proofs.Trees.{tree_is_tuple, tree_is_code}
use Rattle.a_pass.proofs.CTrees.{atrees_push, afields_push}
use Rattle.a_pass.proofs.types.+allocating.Goals as goal

pub a_type_under-returns-in_ok-parts-in-Tuple : goal.a_type_under-returns-in_ok-parts-in-Tuple
a_type_under-returns-in_ok-parts-in-Tuple t c =
    a_tuple c.in_ok-parts-in-Tuple.parts ∙ ap a.ATuple c.in_ok-parts-in-Tuple.ensures
    ∙ ap (λ x. over (shifted AVar c.args.by) c.args.d (atype x)) (sym (tree_is_tuple _ _ _ c.in-Tuple.is
    c.deref.ensures.value))

pub a_type_under-returns-in_ok-parts-in-Code : goal.a_type_under-returns-in_ok-parts-in-Code
a_type_under-returns-in_ok-parts-in-Code t c =
    a_code c.in-Code.owes c.in_ok-parts-in-Code.parts
    ∙ ap (a.ACode c.in-Code.owes) (c.in_ok-parts-in-Code.ensures
    ∙ at_types (shifted AVar c.args.by) _ _ _ c.in_ok-below-in-Code.ensures)
    ∙ ap (λ x. over (shifted AVar c.args.by) c.args.d (atype x))
    (sym (tree_is_code _ _ _ _ c.in-Code.is c.deref-in-Code.ensures.value))

pub a_type_under-returns-in_ok-new-in-Exists : goal.a_type_under-returns-in_ok-new-in-Exists
a_type_under-returns-in_ok-new-in-Exists t c =
    ap (λ x. a.AExists (atree x)) c.in_ok-new-in-Exists.ensures.ok
    ∙ ap a.AExists (c.in_ok-inside-in-Exists.ensures
    ∙ at_type (shifted AVar c.args.by) _ _ _ c.in_ok-below-in-Exists.ensures)
    ∙ ap (λ x. over (shifted AVar c.args.by) c.args.d (a.AExists (atype (ctree x)))) c.deref-in-Exists.ensures
    ∙ ap (λ x. over (shifted AVar c.args.by) c.args.d (atype (ctree x))) (sym c.in-Exists.is)

pub a_type_under-returns-in_ok-push-in-Ref : goal.a_type_under-returns-in_ok-push-in-Ref
a_type_under-returns-in_ok-push-in-Ref t c =
    a_tuple c.push.new.self
    ∙ ap (λ (xs : List (AType × Bool)). a.ATuple (afields xs)) (c.in_ok-push-in-Ref.ensures.items
    ∙ ap (λ (ys : List (AType × Bool)). ys ++ (c.in_ok-inside-in-Ref.inside, true) ∷ [])
    c.in_ok-field-in-Ref.ensures.items)
    ∙ ap (λ x. a.ATuple (a.MoreAFields x true a.NoAFields)) c.in_ok-inside-in-Ref.ensures
    ∙ ap (λ x. over (shifted AVar c.args.by) c.args.d (atype (TCRef (ctree x)))) c.deref-in-Ref.ensures
    ∙ ap (λ x. over (shifted AVar c.args.by) c.args.d (atype (ctree x))) (sym c.in-Ref.is)

pub a_types_under-loop-t-preserved : goal.a_types_under-loop-t-preserved
a_types_under-loop-t-preserved m c =
    atrees_push _ _ _ _ c.args.ts.now c.loop-t.t-index c.t-item.result _ c.loop-t-test.true c.t-item.is
    c.in_ok-push.ensures.items c.in_ok-one.ensures c.loop-t.invariant

pub a_types_under-returns : goal.a_types_under-returns
a_types_under-returns t c =
    c.loop-t.invariant ∙ ap (λ xs. over_types (shifted AVar c.args.by) c.args.d (atypes (ctys xs)))
    (take_all c.loop-t.t-index c.args.ts.now c.loop-t-test.false)

pub a_fields-loop-t-preserved : goal.a_fields-loop-t-preserved
a_fields-loop-t-preserved m c =
    afields_push _ _ _ _ c.args.ts.now c.loop-t.t-index c.t-item.result _ c.loop-t-test.true c.t-item.is
    c.in_ok-push.ensures.items c.in_ok-one.ensures c.loop-t.invariant

pub a_fields-returns : goal.a_fields-returns
a_fields-returns t c =
    c.loop-t.invariant ∙ ap (λ xs. over_fields (shifted AVar c.args.by) c.args.d (aset (atypes (ctys xs))))
    (take_all c.loop-t.t-index c.args.ts.now c.loop-t-test.false)
