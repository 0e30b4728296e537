use Rattle.std.proofs.Common.{◌∙◌, refl}
use Rattle.std.proofs.lemmas.Result.{err_from_is_err_and}
use Rattle.f_grammar.specs.Scope.{of_int, of_name, of_arrow, of_all, of_some, of_ref, of_no_types}
use Rattle.f_grammar.proofs.Bound.{type_bound}
use Rattle.f_parser.proofs.Resolving.{stops_left, stops_right, type_name_stop, type_parts_stop, type_parts_whole}
use Rattle.f_parser.proofs.Resolving.{type_parts_more}
use Rattle.f_parser.proofs.resolve.+type_in_scope.Goals as goal

pub loop-part-init : goal.loop-part-init
loop-part-init t c = record { kept = refl; resolved = rw c.new-found.ensures.items of_no_types }

pub loop-part-preserved : goal.loop-part-preserved
loop-part-preserved t c =
    let l = c.loop-part in
    let k = l.invariant.kept in
    record {
      kept = c.in_ok-type_in_scope-in-Tuple.ensures.kept ∙ k;
      resolved = type_parts_more c.args.text.now c.args.types.now c.deref-part-items.result.now l.part-index
          c.part-item.result l.found.items c.push.new.self.items c.in_ok-type_in_scope-in-Tuple.field-0
          c.part-item.is c.loop-part-test.true c.in_ok-push-in-Tuple.ensures.items l.invariant.resolved
          (rw k at c.in_ok-type_in_scope-in-Tuple.ensures.right);
    }

pub returns-in_err-type_in_scope-in-Tuple-clause-right : goal.returns-in_err-type_in_scope-in-Tuple-clause-right
returns-in_err-type_in_scope-in-Tuple-clause-right t c =
    let p = err_from_is_err_and c.from_residual.result c.from_residual.ensures.1 in
    let l = c.loop-part in
    let k = l.invariant.kept in
    rw (p.1, p.2)
    (type_parts_stop c.args.text.now c.args.types.now c.args.ty.now c.in-Tuple.parts c.deref-part-items.result.now
    c.in-Tuple.is c.deref-part-items.ensures.value l.part-index c.part-item.result _ _
    c.part-item.is c.loop-part-test.true l.invariant.resolved (rw k at c.in_err-type_in_scope-in-Tuple.ensures.right))

pub returns-after-loop-part-clause-right : goal.returns-after-loop-part-clause-right
returns-after-loop-part-clause-right t c =
    let l = c.loop-part in
    type_parts_whole c.args.text.now c.args.types.now c.args.ty.now c.in-Tuple.parts c.deref-part-items.result.now
    c.in-Tuple.is c.deref-part-items.ensures.value l.part-index l.found c.loop-part-test.false l.invariant.resolved

pub returns-in-Int-clause-right : goal.returns-in-Int-clause-right
returns-in-Int-clause-right t c = rw c.in-Int.is of_int

pub returns-in-None-clause-right : goal.returns-in-None-clause-right
returns-in-None-clause-right t c =
    type_name_stop c.args.text.now c.args.types.now c.args.ty.now c.in-Name.span c.in-Name.is
    (rw c.spelling.ensures at c.in-None.ensures)

pub returns-in-Some-clause-right : goal.returns-in-Some-clause-right
returns-in-Some-clause-right t c =
    rw c.in-Name.is (of_name c.in-Name.span c.in-Some.place (rw c.spelling.ensures at c.in-Some.ensures))

pub returns-in_err-left-in-Arrow-clause-right : goal.returns-in_err-left-in-Arrow-clause-right
returns-in_err-left-in-Arrow-clause-right t c =
    let p = err_from_is_err_and c.from_residual-in_err-left-in-Arrow.result
    c.from_residual-in_err-left-in-Arrow.ensures.1 in
    rw (p.1, p.2, c.in-Arrow.is) (stops_left _ _ _ _ (rw c.deref.ensures at c.in_err-left-in-Arrow.ensures.right))

pub returns-in_err-right-in-Arrow-clause-right : goal.returns-in_err-right-in-Arrow-clause-right
returns-in_err-right-in-Arrow-clause-right t c =
    let p = err_from_is_err_and c.from_residual-in_err-right-in-Arrow.result
    c.from_residual-in_err-right-in-Arrow.ensures.1 in
    let x = c.in_ok-left-in-Arrow.ensures in
    rw (p.1, p.2, c.in-Arrow.is)
    (stops_right _ _ _ _ (type_bound (rw c.deref.ensures at x.right))
    (rw (x.kept, c.deref-in-Arrow.ensures) at c.in_err-right-in-Arrow.ensures.right))

pub returns-in_ok-whole-in-All-clause-right : goal.returns-in_ok-whole-in-All-clause-right
returns-in_ok-whole-in-All-clause-right t c =
    rw (c.in-All.is, c.in_ok-whole-in-All.ensures)
    (of_all c.in-All.name
    (rw (c.in_ok-push-in-All.ensures.pushed, c.spelling-in-All.ensures, c.deref-in-All.ensures) at
    c.in_ok-inner-in-All.ensures.right))

pub returns-in_ok-whole-in-Arrow-clause-right : goal.returns-in_ok-whole-in-Arrow-clause-right
returns-in_ok-whole-in-Arrow-clause-right t c =
    let x = c.in_ok-left-in-Arrow.ensures in
    rw (c.in-Arrow.is, c.in_ok-whole-in-Arrow.ensures)
    (of_arrow (rw c.deref.ensures at x.right)
    (rw (x.kept, c.deref-in-Arrow.ensures) at c.in_ok-right-in-Arrow.ensures.right))

pub returns-in_ok-whole-in-Exists-clause-right : goal.returns-in_ok-whole-in-Exists-clause-right
returns-in_ok-whole-in-Exists-clause-right t c =
    rw (c.in-Exists.is, c.in_ok-whole-in-Exists.ensures)
    (of_some c.in-Exists.name
    (rw (c.in_ok-push-in-Exists.ensures.pushed, c.spelling-in-Exists.ensures, c.deref-in-Exists.ensures) at
    c.in_ok-inner-in-Exists.ensures.right))

pub returns-in_ok-whole-in-Ref-clause-right : goal.returns-in_ok-whole-in-Ref-clause-right
returns-in_ok-whole-in-Ref-clause-right t c =
    rw (c.in-Ref.is, c.in_ok-whole-in-Ref.ensures)
    (of_ref (rw c.deref-in-Ref.ensures at c.in_ok-inner-in-Ref.ensures.right))
