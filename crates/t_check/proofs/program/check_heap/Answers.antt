use Rattle.std.proofs.Common.{List, ◌≡◌, ◌<◌, length, get_or, sym, subst}
use Rattle.std.proofs.lemmas.Result.{err_from_is_err_and}
use Rattle.t_terms.specs.declared.data.Data.{Data}
use Rattle.t_terms.specs.Read.{data_fields, spanned_data, spanned_heap}
use Rattle.t_terms.specs.Spanned.{plain_fields}
use Rattle.t_terms.specs.ReadProgram.{program}
use Rattle.t_rules.specs.Rules.{DataAccepted}
use Rattle.t_rules.specs.Faults.{DataFaultWith, HeapFaultWith}
use Rattle.t_intern.proofs.Growing.{grown_next}
use Rattle.t_known.specs.Refusals.{SaysWith}
use Rattle.t_check.specs.Verdict.{FormedData}
use Rattle.t_known.specs.Labels.{Field}
use Rattle.t_known.proofs.Numbering.{labels_grown}
use Rattle.t_check.proofs.Typing.{says_map}
use Rattle.t_check.proofs.Blocks.{formed_data_at}
use Rattle.t_check.proofs.Bodies.{data_fault, data_more, data_end}
use Rattle.t_check.proofs.program.check_heap.Goals as goal

pub check_data-requires-clause-formed : goal.check_data-requires-clause-formed
check_data-requires-clause-formed c =
    let p = c.args.of.now.program.now in
    let i = c.loop-tuple.tuple-index in
    let x = c.tuple-item.result in
    subst (λ (xs : List Field). FormedData p (data_fields xs)) (sym c.deref.ensures.value)
    (formed_data_at p i x (subst (λ (xs : List Data). i < length xs) c.requires.heap c.loop-tuple-test.true)
    (subst (λ (xs : List Data). x ≡ get_or xs i x) c.requires.heap c.tuple-item.is) p.whole.0)

pub check_data-requires-clause-place : goal.check_data-requires-clause-place
check_data-requires-clause-place c =
    record {
      sound = c.none.ensures.sound c.loop-tuple.types;
      labels = labels_grown c.args.types.now c.loop-tuple.types c.args.of.now.program.now c.args.of.now.labels.now
          c.loop-tuple.invariant.grown c.requires.labels;
    }

pub returns-in_err-check_data-clause-heap : goal.returns-in_err-check_data-clause-heap
returns-in_err-check_data-clause-heap c =
    let p = err_from_is_err_and c.from_residual.result c.from_residual.ensures.1 in
    let P = program c.args.of.now.program.now in
    let x = c.tuple-item.result in
    rw (p.1, p.2)
    (says_map c.check_data.new.types c.in_err-check_data.field-0.0 (DataFaultWith P (spanned_data x).fields)
    (HeapFaultWith P (spanned_heap c.args.heap.now))
    (data_fault P c.args.heap.now c.loop-tuple.tuple-index x c.loop-tuple-test.true c.tuple-item.is
    c.loop-tuple.invariant.left)
    (subst (λ (xs : List Field). SaysWith c.check_data.new.types c.in_err-check_data.field-0.0
    (DataFaultWith P (data_fields xs)))
    c.deref.ensures.value c.in_err-check_data.ensures.words))

pub returns-in_err-check_data-clause-grown : goal.returns-in_err-check_data-clause-grown
returns-in_err-check_data-clause-grown c =
    grown_next _ _ _ c.loop-tuple.invariant.grown c.in_err-check_data.ensures.grown

pub loop-tuple-preserved : goal.loop-tuple-preserved
loop-tuple-preserved c =
    let P = program c.args.of.now.program.now in
    record {
      grown = grown_next _ _ _ c.loop-tuple.invariant.grown c.in_ok-check_data.ensures.grown;
      left = data_more P c.args.heap.now c.loop-tuple.tuple-index c.tuple-item.result c.loop-tuple-test.true
          c.tuple-item.is
          (subst (λ (xs : List Field). DataAccepted P (plain_fields (data_fields xs))) c.deref.ensures.value
          c.in_ok-check_data.ensures.words) c.loop-tuple.invariant.left;
    }

pub returns-clause-heap : goal.returns-clause-heap
returns-clause-heap c =
    data_end (program c.args.of.now.program.now) c.args.heap.now c.loop-tuple.tuple-index c.loop-tuple-test.false
    c.loop-tuple.invariant.left
