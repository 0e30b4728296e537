use Rattle.std.proofs.Common.{◌+◌, ◌++◌, List, ◌∷◌, length, drop, sym, ap, ◌∙◌}
use Rattle.std.specs.Prelude.{slice_index}
use Rattle.std.proofs.lemmas.List.{drop_more}
use Rattle.idx_core.specs.declared.span.Span.{Span}
use Rattle.t_types.specs.declared.types.TType.{TType}
use Rattle.t_terms.specs.declared.value.Value.{Value}
use Rattle.t_terms.specs.declared.data.Data.{Data}
use Rattle.w_terms.specs.declared.program.WDatum.TheVariants as D
use Rattle.w_gen.proofs.DataWalks.{heap_words, field_words, words_go}
use Rattle.w_gen.proofs.data.words.Goals as goal

pub loop-tuple-preserved : goal.loop-tuple-preserved
loop-tuple-preserved c =
    let l = c.loop-tuple in
    let xs = c.args.heap.now in
    let x = c.tuple-item.result in
    let i = l.tuple-index in
    let at = slice_index c.args.places.now in
    let next = drop_more xs i x c.loop-tuple-test.true
    ∙ ap (λ (y : Data). y ∷ drop (i + 1) xs) (sym c.tuple-item.is) in
    words_go at l.image.items c.tuple_words.new.image.items (drop i xs) (drop (i + 1) xs) x
    (c.args.image.now.items ++ heap_words at xs) l.invariant next (c.in_ok-tuple_words.ensures
    ∙ ap (λ (fs : List (Value × TType × Span)). l.image.items ++ D.Number (length fs) ∷ field_words at fs)
    c.deref.ensures.value)
