use Rattle.std.proofs.Common.{length, ◌-◌, map, [], ◌∷◌}
use Rattle.text_core.specs.Table.{Nt, Tm, Do}
use Rattle.t_text.specs.declared.wanted.Wanted.TheVariants as want
use Rattle.t_text.specs.GrammarTable.{LSomeTypes, LMoreTypes, MakeClosedTypes, OfTypes}
use Rattle.t_shapes.specs.RawTypes.{raw}
use Rattle.t_shapes.specs.ReadsTypes.{ReadsSome}
use Rattle.t_text.specs.Kept.{tokens_of}
use Rattle.t_shapes.proofs.lists.some_types.Given as goal

abbrev pub invariant-loop-types : goal.invariant-loop-types
invariant-loop-types l =
    ReadsSome LSomeTypes (Nt LMoreTypes ∷ (Tm want.RightBracket ∷ (Do MakeClosedTypes ∷ [])))
    (tokens_of l.tokens) l.depth l.at l.next (OfTypes (map raw l.types.items))

abbrev pub decreases-loop-types : goal.decreases-loop-types
decreases-loop-types l = length (tokens_of l.tokens) - l.next
