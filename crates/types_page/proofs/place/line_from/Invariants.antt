use Rattle.types_page.specs.Writing.{Counted}
use Rattle.types_page.proofs.place.line_from.Given as goal

abbrev pub invariant-loop-i : goal.invariant-loop-i
invariant-loop-i l = Counted l.text l.i l.number l.begin
