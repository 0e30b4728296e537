-- Fields of data tuples.
use Rattle.std.proofs.Common.{◌≡◌, ℕ, ◌+◌, ◌≤◌, List, [], ◌∷◌, ◌++◌, map, refl, ap, ◌∙◌, arith}
use Rattle.std.proofs.lemmas.List.{map-append}
use Rattle.text_core.specs.Table.{Do}
use Rattle.t_text.specs.declared.token.Token.{Token}
use Rattle.t_text.specs.declared.wanted.Wanted.TheVariants as want
use Rattle.t_text.specs.GrammarTable.{LDatums, MakeNoDatums}
use Rattle.t_text.specs.GrammarTable.{OfToken, OfTuple}
use Rattle.t_text.specs.Text.{most_open}
use Rattle.t_shapes.specs.ReadsTypes.{Reads}
use Rattle.t_shapes.specs.Cursor.{Next}
use Rattle.t_shapes.proofs.Stepping.{within, is_next, is_of, begins, by_do}
use Rattle.t_shapes.specs.declared.raw.RawDatum.{RawDatum}
use Rattle.t_shapes.specs.Raw.{raw_datum}
use Rattle.t_shapes.proofs.Lines.{no_datums}

pub datums_more : (xs ys : List RawDatum) (x : RawDatum) → ys ≡ xs ++ x ∷ [] →
    map raw_datum ys ≡ map raw_datum xs ++ raw_datum x ∷ []
datums_more xs ys x e = ap (λ (zs : List RawDatum). map raw_datum zs) e ∙ map-append raw_datum xs (x ∷ [])

pub datums_empty : (ts : List Token) (d i : ℕ) (c : Token) → d ≤ most_open → Next ts i want.RightAngle c →
    Reads LDatums ts d i (i + 1) (OfTuple [] ∷ [])
datums_empty ts d i c h e = record {
  forward = omega arith;
  in_range = (let l = within ts i want.RightAngle c e in omega arith);
  same = by_do MakeNoDatums [] (OfToken c ∷ []) (OfTuple [] ∷ [])
      (begins ts d i c LDatums (Do MakeNoDatums ∷ []) (is_next ts i want.RightAngle c e)
      (no_datums c.kind (is_of ts i want.RightAngle c e)) (omega arith)) (λ below. refl);
}
