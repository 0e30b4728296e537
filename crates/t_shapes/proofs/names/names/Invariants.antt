use Rattle.std.proofs.Common.{length, ◌-◌, [], ◌∷◌}
use Rattle.text_core.specs.Table.{Nt, Tm, Do}
use Rattle.t_text.specs.declared.wanted.Wanted.TheVariants as want
use Rattle.t_text.specs.GrammarTable.{LNames, LMoreNames, MakeClosedNames, OfNames}
use Rattle.t_shapes.specs.ReadsTypes.{ReadsSome}
use Rattle.t_text.specs.Kept.{tokens_of}
use Rattle.t_shapes.proofs.names.names.Given as goal

abbrev pub invariant-loop-names : goal.invariant-loop-names
invariant-loop-names l =
    ReadsSome LNames (Nt LMoreNames ∷ (Tm want.RightBracket ∷ (Do MakeClosedNames ∷ []))) (tokens_of l.tokens) l.depth
    l.at l.next (OfNames l.names.items)

abbrev pub decreases-loop-names : goal.decreases-loop-names
decreases-loop-names l = length (tokens_of l.tokens) - l.next
