use Rattle.std.proofs.Common.{List, ◌∷◌, [], ◌++◌, ◌∙◌, length, map, take, ap, sym, append_assoc}
use Rattle.std.proofs.lemmas.List.{map-append, append-nil, take_all}
use Rattle.std.proofs.lemmas.List.Elements.{All-same, All-push}
use Rattle.idx_core.specs.declared.span.Span.{Span}
use Rattle.t_types.specs.declared.types.TType.{TType}
use Rattle.t_terms.specs.declared.value.Value.{Value}
use Rattle.t_terms.specs.Read.{data_fields}
use Rattle.t_terms.specs.Spanned.{plain_fields}
use Rattle.t_rules.specs.Erase.{erase_datum}
use Rattle.t_collect.specs.Cells.{cells_of}
use Rattle.t_machine.specs.Heap.{Started}
use Rattle.t_machine.specs.Words.{word}
use Rattle.t_collect.specs.declared.word.Word.{Word}
use Rattle.t_machine.proofs.Tuples.{tuple_added}
use Rattle.t_machine.proofs.Loads.{words_taken}
use Rattle.t_machine.proofs.There.{field_there}
use Rattle.t_machine.proofs.loading.load_tuple.Goals as goal

pub load_word-requires : goal.load_word-requires
load_word-requires c =
    let there = field_there c.requires.0 (length c.args.starts.now) c.args.fields.now c.loop-field.field-index
    c.field-item.result c.loop-field-test.true c.field-item.is c.requires.1 in
    (c.requires.0, 0, there.0)

pub loop-field-init : goal.loop-field-init
loop-field-init c =
    let x = c.args.heap.now in
    let cells = c.in_ok-start_tuple.ensures.cells in
    record {
      starts = c.in_ok-start_tuple.ensures.starts;
      kept = c.in_ok-start_tuple.ensures.kept;
      dropped = c.in_ok-start_tuple.ensures.dropped;
      caps = c.start_tuple.ensures.caps;
      cells = ap (map word) cells ∙ sym (append-nil (map word (cells_of x.cells)));
      started = λ all. All-same (Started c.args.starts.now) (cells_of c.start_tuple.new.self.cells) (cells_of x.cells)
          cells all;
    }

pub loop-field-preserved : goal.loop-field-preserved
loop-field-preserved c =
    let l = c.loop-field in
    let xs = c.args.fields.now in
    let ss = c.args.starts.now in
    let w = c.in_ok-word.word in
    record {
      starts = l.invariant.starts;
      kept = l.invariant.kept;
      dropped = l.invariant.dropped;
      caps = (l.invariant.caps.0, c.push.ensures.most ∙ l.invariant.caps.1);
      cells =
          ap (λ (ws : List Word). map word ws) c.in_ok-push.ensures.words
          ∙ map-append word (cells_of l.heap.cells) (w ∷ [])
          ∙ ap (λ ws. ws ++ word w ∷ []) l.invariant.cells
          ∙ append_assoc (map word (cells_of c.args.heap.now.cells))
          (map erase_datum (plain_fields (data_fields (take l.field-index xs)))) (word w ∷ [])
          ∙ ap (λ v. map word (cells_of c.args.heap.now.cells) ++
          (map erase_datum (plain_fields (data_fields (take l.field-index xs))) ++ v ∷ [])) c.in_ok-word.ensures.same
          ∙ ap (λ ws. map word (cells_of c.args.heap.now.cells) ++ ws)
          (sym (words_taken xs l.field-index c.field-item.result c.loop-field-test.true c.field-item.is));
      started = λ all. All-same (Started ss) (cells_of c.push.new.self) (cells_of l.heap.cells ++ w ∷ [])
          c.in_ok-push.ensures.words (All-push (Started ss) (cells_of l.heap.cells) w (l.invariant.started all)
          c.in_ok-word.ensures.started);
    }

pub returns-clause-heap : goal.returns-clause-heap
returns-clause-heap c =
    let l = c.loop-field in
    let all = take_all l.field-index c.args.fields.now c.loop-field-test.false in
    λ h is.
    tuple_added c.args.heap.now h is l.heap (map erase_datum (plain_fields (data_fields c.args.fields.now)))
    (l.invariant.cells ∙ ap (λ (xs : List (Value × TType × Span)). map word (cells_of c.args.heap.now.cells) ++ map
    erase_datum (plain_fields (data_fields xs))) all) l.invariant.starts

pub returns-clause-started : goal.returns-clause-started
returns-clause-started c = c.loop-field.invariant.started
