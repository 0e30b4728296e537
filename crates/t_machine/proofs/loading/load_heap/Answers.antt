use Rattle.std.proofs.Common.{List, ◌∷◌, [], ◌++◌, ◌∙◌, length, map, take, ap, sym, subst}
use Rattle.t_terms.specs.Whole.{WellFormedData}
use Rattle.std.proofs.lemmas.List.{take_all}
use Rattle.std.proofs.lemmas.List.Elements.{All-same, All-nil}
use Rattle.idx_core.specs.declared.span.Span.{Span}
use Rattle.t_types.specs.declared.types.TType.{TType}
use Rattle.t_terms.specs.declared.data.Data.{Data}
use Rattle.t_terms.specs.declared.value.Value.{Value}
use Rattle.t_terms.specs.Read.{data_fields, data_of}
use Rattle.t_terms.specs.Spanned.{plain_fields}
use Rattle.t_rules.specs.Erase.{EHeap, erase_datum}
use Rattle.t_collect.specs.Cells.{cells_of}
use Rattle.t_machine.specs.Heap.{IsHeap, Started}
use Rattle.t_machine.specs.Words.{word}
use Rattle.t_machine.proofs.Loads.{data_taken}
use Rattle.t_machine.proofs.There.{tuple_there}
use Rattle.t_machine.proofs.loading.load_heap.Goals as goal

pub load_tuple-requires : goal.load_tuple-requires
load_tuple-requires c =
    let p = c.requires.0 in
    let q = length c.args.starts.now in (
      p,
      subst (λ (ys : List (Value × TType × Span)). WellFormedData p q (plain_fields (data_fields ys)))
          (sym c.deref.ensures.value)
          (tuple_there p q c.args.tuples.now c.loop-tuple.tuple-index c.tuple-item.result c.loop-tuple-test.true
          c.tuple-item.is c.requires.1),
    )

pub loop-tuple-init : goal.loop-tuple-init
loop-tuple-init c =
    record {
      heap = (ap (map word) c.new-heap.ensures.cells, c.new-heap.ensures.starts);
      kept = c.new-heap.ensures.kept;
      dropped = c.new-heap.ensures.dropped;
      caps = c.new-heap.ensures.caps;
      started = All-same (Started c.args.starts.now) (cells_of c.new-heap.result.cells) [] c.new-heap.ensures.cells
          (All-nil (Started c.args.starts.now));
    }

pub loop-tuple-preserved : goal.loop-tuple-preserved
loop-tuple-preserved c =
    let xs = c.args.tuples.now in
    let i = c.loop-tuple.tuple-index in
    let inv = c.loop-tuple.invariant in
    let ss = c.args.starts.now in
    record {
      heap = subst (λ (h : EHeap). IsHeap c.load_tuple.new.heap h)
          (ap (λ (ys : List (Value × TType × Span)). map (map erase_datum) (data_of (take i xs)) ++ map erase_datum
          (plain_fields (data_fields ys)) ∷ []) c.deref.ensures.value
          ∙ sym (data_taken xs i c.tuple-item.result c.loop-tuple-test.true c.tuple-item.is))
          (c.in_ok-load_tuple.ensures.heap (map (map erase_datum) (data_of (take i xs))) inv.heap);
      kept = c.in_ok-load_tuple.ensures.kept ∙ inv.kept;
      dropped = c.in_ok-load_tuple.ensures.dropped ∙ inv.dropped;
      caps = (
        c.in_ok-load_tuple.ensures.caps.0 ∙ inv.caps.0,
        c.in_ok-load_tuple.ensures.caps.1 ∙ inv.caps.1,
      );
      started = c.in_ok-load_tuple.ensures.started inv.started;
    }

pub returns-clause-heap : goal.returns-clause-heap
returns-clause-heap c =
    subst (λ (xs : List Data). IsHeap c.loop-tuple.heap (map (map erase_datum) (data_of xs)))
    (take_all c.loop-tuple.tuple-index c.args.tuples.now c.loop-tuple-test.false) c.loop-tuple.invariant.heap

pub returns-clause-started : goal.returns-clause-started
returns-clause-started c = c.loop-tuple.invariant.started
