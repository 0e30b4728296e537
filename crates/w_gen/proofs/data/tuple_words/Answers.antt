use Rattle.std.proofs.Common.{◌+◌, ◌++◌, ◌∷◌, length, drop, sym, ap, ◌∙◌}
use Rattle.std.specs.Prelude.{slice_index}
use Rattle.std.proofs.lemmas.List.{drop_more}
use Rattle.idx_core.specs.declared.span.Span.{Span}
use Rattle.t_types.specs.declared.types.TType.{TType}
use Rattle.t_terms.specs.declared.value.Value.{Value}
use Rattle.w_terms.specs.declared.program.WDatum.TheVariants as D
use Rattle.w_gen.proofs.DataWalks.{field_words, fields_go}
use Rattle.w_gen.proofs.data.tuple_words.Goals as goal

pub loop-field-preserved : goal.loop-field-preserved
loop-field-preserved c =
    let l = c.loop-field in
    let xs = c.args.fields.now in
    let x = c.field-item.result in
    let i = l.field-index in
    let at = slice_index c.args.places.now in
    let next = drop_more xs i x c.loop-field-test.true
    ∙ ap (λ (y : Value × TType × Span). y ∷ drop (i + 1) xs) (sym c.field-item.is) in
    fields_go at l.image.items c.push-in-loop-field.new.self.items (drop i xs) (drop (i + 1) xs) x c.in_ok-w.w
    (c.args.image.now.items ++ D.Number (length xs) ∷ field_words at xs) l.invariant next c.in_ok-w.ensures
    c.in_ok-push-2.ensures.items
