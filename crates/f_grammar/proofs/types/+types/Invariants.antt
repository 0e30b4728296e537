use Rattle.std.proofs.Common.{◌+◌, length, ◌-◌, ◌*◌, map}
use Rattle.f_grammar.specs.Read.{type_of}
use Rattle.f_grammar.specs.Reads.{ReadsSome}
use Rattle.f_grammar.proofs.types.+types.Given as goal

abbrev pub decreases-part_type : goal.decreases-part_type
decreases-part_type l = 3 * (length l.tokens.now - l.at)

abbrev pub decreases-types : goal.decreases-types
decreases-types l = 3 * (length l.tokens.now - l.at) + 2

abbrev pub decreases-whole_type : goal.decreases-whole_type
decreases-whole_type l = 3 * (length l.tokens.now - l.at) + 1

abbrev pub invariant-types-loop-types : goal.invariant-types-loop-types
invariant-types-loop-types l = ReadsSome l.tokens l.depth l.at l.next (map type_of l.types.items)

abbrev pub decreases-types-loop-types : goal.decreases-types-loop-types
decreases-types-loop-types l = length l.tokens - l.next
