use Rattle.std.proofs.Common.{length, ◌-◌, map, [], ◌∷◌}
use Rattle.text_core.specs.Table.{Nt, Tm, Do}
use Rattle.t_text.specs.declared.wanted.Wanted.TheVariants as want
use Rattle.t_text.specs.GrammarTable.{LDatums, LMoreDatums, MakeClosedDatums, OfDatums}
use Rattle.t_shapes.specs.ReadsTypes.{ReadsSome}
use Rattle.t_shapes.specs.Raw.{raw_datum}
use Rattle.t_text.specs.Kept.{tokens_of}
use Rattle.t_shapes.proofs.data.datums.Given as goal

abbrev pub invariant-loop-fields : goal.invariant-loop-fields
invariant-loop-fields l =
    ReadsSome LDatums (Nt LMoreDatums ∷ (Tm want.RightAngle ∷ (Do MakeClosedDatums ∷ []))) (tokens_of l.tokens) 1 l.at
    l.next (OfDatums (map raw_datum l.fields.items))

abbrev pub decreases-loop-fields : goal.decreases-loop-fields
decreases-loop-fields l = length (tokens_of l.tokens) - l.next
