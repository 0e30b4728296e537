use Rattle.std.proofs.Common.{◌≡◌, drop}
use Rattle.types_page.specs.Page.{from_byte}
use Rattle.types_page.proofs.words.token_from.Given as goal

abbrev pub invariant-loop-i : goal.invariant-loop-i
invariant-loop-i l = from_byte l.byte (drop l.from l.tokens) ≡ from_byte l.byte (drop l.i l.tokens)
