use Rattle.h_notation.proofs.Standing.{Joining}
use Rattle.h_notation.proofs.fields.join_fields.Given as goal

abbrev pub invariant-loop-i : goal.invariant-loop-i
invariant-loop-i l = Joining l.fn.pieces l.pieces l.fields l.i l.piece
