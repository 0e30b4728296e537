use Rattle.std.proofs.Common.{◌≡◌, ◌∷◌, ◌++◌, length, drop}
use Rattle.std.specs.Prelude.{slice_index}
use Rattle.w_terms.specs.declared.program.WDatum.TheVariants as D
use Rattle.w_gen.proofs.DataWalks.{field_words}
use Rattle.w_gen.proofs.data.tuple_words.Given as goal

abbrev pub invariant-loop-field : goal.invariant-loop-field
invariant-loop-field l =
    l.image.items ++ field_words (slice_index l.places) (drop l.field-index l.fields)
    ≡ l.fn.image.items ++ D.Number (length l.fields) ∷ field_words (slice_index l.places) l.fields
