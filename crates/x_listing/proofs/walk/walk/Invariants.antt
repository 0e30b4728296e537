use Rattle.std.proofs.Common.{◌≡◌, drop}
use Rattle.t_terms.specs.Read.{end_of}
use Rattle.x_listing.specs.Said.{work_of}
use Rattle.x_listing.proofs.Sayings.{left}
use Rattle.x_listing.proofs.walk.walk.Given as goal

abbrev pub invariant-loop-i : goal.invariant-loop-i
invariant-loop-i l =
    left l.b l.i (drop l.i l.body) (end_of l.block.«end») (work_of l.work)
    ≡ left l.b 0 l.body (end_of l.block.«end») (work_of l.initial.work)
