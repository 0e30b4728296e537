use Rattle.std.proofs.Common.{◌+◌, length, ◌-◌, ◌*◌, map, [], ◌∷◌}
use Rattle.text_core.specs.Table.{Nt, Tm, Do}
use Rattle.t_text.specs.declared.wanted.Wanted.TheVariants as want
use Rattle.t_text.specs.GrammarTable.{LRegs, LFields, LMoreRegs, LMoreFields, MakeClosedRegs, MakeClosedFields, OfRegs}
use Rattle.t_text.specs.GrammarTable.{OfFields}
use Rattle.t_shapes.specs.RawTypes.{raw_reg, raw_field}
use Rattle.t_shapes.specs.ReadsTypes.{ReadsSome}
use Rattle.t_text.specs.Kept.{tokens_of}
use Rattle.t_shapes.proofs.types.+types.Given as goal

abbrev pub decreases-whole_type : goal.decreases-whole_type
decreases-whole_type l = 5 * (length (tokens_of l.tokens.now) - l.at) + 1

abbrev pub decreases-code_type : goal.decreases-code_type
decreases-code_type l = 5 * (length (tokens_of l.tokens.now) - l.at)

abbrev pub decreases-some_type : goal.decreases-some_type
decreases-some_type l = 5 * (length (tokens_of l.tokens.now) - l.at)

abbrev pub decreases-entry : goal.decreases-entry
decreases-entry l = 5 * (length (tokens_of l.tokens.now) - l.at) + 2

abbrev pub decreases-field : goal.decreases-field
decreases-field l = 5 * (length (tokens_of l.tokens.now) - l.at) + 2

abbrev pub decreases-regs : goal.decreases-regs
decreases-regs l = 5 * (length (tokens_of l.tokens.now) - l.at) + 3

abbrev pub decreases-fields : goal.decreases-fields
decreases-fields l = 5 * (length (tokens_of l.tokens.now) - l.at) + 3

abbrev pub decreases-file : goal.decreases-file
decreases-file l = 5 * (length (tokens_of l.tokens.now) - l.at) + 4

abbrev pub invariant-regs-loop-regs : goal.invariant-regs-loop-regs
invariant-regs-loop-regs l =
    ReadsSome LRegs (Nt LMoreRegs ∷ (Tm want.RightBrace ∷ (Do MakeClosedRegs ∷ []))) (tokens_of l.tokens) l.depth l.at
    l.next (OfRegs (map raw_reg l.regs.items))

abbrev pub decreases-regs-loop-regs : goal.decreases-regs-loop-regs
decreases-regs-loop-regs l = length (tokens_of l.tokens) - l.next

abbrev pub invariant-fields-loop-fields : goal.invariant-fields-loop-fields
invariant-fields-loop-fields l =
    ReadsSome LFields (Nt LMoreFields ∷ (Tm want.RightAngle ∷ (Do MakeClosedFields ∷ []))) (tokens_of l.tokens) l.depth
    l.at l.next (OfFields (map raw_field l.fields.items))

abbrev pub decreases-fields-loop-fields : goal.decreases-fields-loop-fields
decreases-fields-loop-fields l = length (tokens_of l.tokens) - l.next
