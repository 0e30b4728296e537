use Rattle.std.proofs.Common.{◌≡◌}
use Rattle.f_grammar.specs.Frames.{Leads, work}
use Rattle.f_grammar.proofs.reader.whole_term.Given as goal

abbrev pub invariant-loop-control : goal.invariant-loop-control
invariant-loop-control l = (l.reader.tokens.now ≡ l.tokens) × Leads l.tokens l.reader l.control

abbrev pub decreases-loop-control : goal.decreases-loop-control
decreases-loop-control l = work l.tokens l.reader l.control
