use Rattle.std.proofs.Common.{◌≡◌, ◌+◌, ◌≤◌, take}
use Rattle.page_core.specs.Spot.{lines}
use Rattle.listing.proofs.place.number_at.Given as goal

abbrev pub invariant-loop-i : goal.invariant-loop-i
invariant-loop-i l = record {
  counted : l.number ≡ lines (take l.i l.text);
  least : l.number ≤ l.i + 1;
}
