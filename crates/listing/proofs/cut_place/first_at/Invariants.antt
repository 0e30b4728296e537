use Rattle.t_terms.specs.Read.{body}
use Rattle.listing.specs.Steps.{Clear}
use Rattle.listing.proofs.cut_place.first_at.Given as goal

abbrev pub invariant-loop-i : goal.invariant-loop-i
invariant-loop-i l = Clear l.place l.i (body l.steps)
