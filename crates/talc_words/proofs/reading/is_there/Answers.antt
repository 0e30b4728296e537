use Rattle.std.proofs.Common.{◌≡◌, ◌∙◌, List, Option, Some, None, is_some, option_and_then, option_map, refl, ap}
use Rattle.std.specs.Prelude.{find, slice_get}
use Rattle.std.specs.Str.{bytes_eq}
use Rattle.clap.specs.Values.{read_as}
use Rattle.clap.specs.Walk.{Row, Text, row_text}
use Rattle.clap.specs.Words.{first_of, found_of, one_of, rows_of}
use Rattle.talc_words.proofs.reading.is_there.Goals as goal

kept : {X Y : Type 0} (f : X → Y) (o : Option X) → is_some o ≡ is_some (option_map f o)
kept f None = refl
kept f (Some x) = refl

-- an argument has a value, as it stands, where it has one as it is read
as_read : (id : Text) (rows : List Row) → is_some (first_of id rows) ≡ is_some (one_of id rows)
as_read id rows = go (find (λ (r : Row). bytes_eq r.id id) rows)
  where
    go : (o : Option Row) → is_some (option_and_then (λ (r : Row). slice_get r.values 0) o)
        ≡ is_some (option_and_then row_text o)
    go None = refl
    go (Some r) = kept (read_as r.reading) (slice_get r.values 0)

pub returns : goal.returns
returns c =
    let rows = rows_of (found_of c.args.matches.now) in
    c.is_some.ensures ∙ kept (λ s. s.now) c.value.result ∙ ap is_some c.value.ensures ∙ as_read c.args.name.now rows
