use Rattle.std.proofs.Common.{◌≡◌, drop}
use Rattle.x_listing.specs.Said.{work_of}
use Rattle.x_listing.proofs.Sayings.{blocks_left}
use Rattle.x_listing.proofs.walk.walk_all.Given as goal

abbrev pub invariant-loop-b : goal.invariant-loop-b
invariant-loop-b l =
    blocks_left l.b (drop l.b l.blocks) (work_of l.work) ≡ blocks_left 0 l.blocks (work_of l.initial.work)
