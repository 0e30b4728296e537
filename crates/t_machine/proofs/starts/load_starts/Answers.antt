use Rattle.std.proofs.Common.{◌≡◌, List, ◌∷◌, [], ◌++◌, ◌+◌, ◌∙◌, length, map, take, ap, sym, subst, arith}
use Rattle.std.proofs.Common.{length-append, zero-add}
use Rattle.std.proofs.lemmas.List.{take_all}
use Rattle.t_terms.specs.declared.data.Data.{Data}
use Rattle.t_terms.specs.Read.{data_fields, data_of}
use Rattle.t_terms.specs.Spanned.{plain_fields}
use Rattle.t_rules.specs.Erase.{EWord, EHeap, erase_datum}
use Rattle.t_collect.specs.Tuples.{starts_from}
use Rattle.t_machine.specs.Heap.{fields_of}
use Rattle.t_machine.proofs.Loads.{data_taken, words_count}
use Rattle.t_machine.proofs.Tuples.{fields_push, starts_push}
use Rattle.t_machine.proofs.starts.load_starts.Goals as goal

pub loop-tuple-preserved : goal.loop-tuple-preserved
loop-tuple-preserved c =
    let l = c.loop-tuple in
    let xs = c.args.tuples.now in
    let i = l.tuple-index in
    let fields = c.tuple-item.result.fields.items in
    let h : EHeap = map (map erase_datum) (data_of (take i xs)) in
    let t : List EWord = map erase_datum (plain_fields (data_fields fields)) in
    let all : h ++ t ∷ [] ≡ map (map erase_datum) (data_of (take (i + 1) xs)) =
    sym (data_taken xs i c.tuple-item.result c.loop-tuple-test.true c.tuple-item.is) in
    let total : c.in_ok-start.start ≡ length (fields_of (h ++ t ∷ [])) =
    omega (
      arith,
      c.in_ok-start.ensures,
      l.invariant.start,
      c.len.ensures,
      words_count fields,
      length-append (fields_of h) t,
      ap (λ ws. length ws) (fields_push h t),
    ) in
    record {
      starts = c.in_ok-push.ensures.items
          ∙ ap (λ ss. ss ++ l.start ∷ []) l.invariant.starts
          ∙ ap (λ k. starts_from 0 h ++ k ∷ []) (l.invariant.start ∙ sym (zero-add (length (fields_of h))))
          ∙ sym (starts_push 0 h t) ∙ ap (λ g. starts_from 0 g) all;
      start = total ∙ ap (λ g. length (fields_of g)) all;
    }

pub returns : goal.returns
returns c =
    subst (λ (xs : List Data). c.loop-tuple.starts.items ≡ starts_from 0 (map (map erase_datum) (data_of xs)))
    (take_all c.loop-tuple.tuple-index c.args.tuples.now c.loop-tuple-test.false) c.loop-tuple.invariant.starts
