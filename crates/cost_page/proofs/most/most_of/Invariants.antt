use Rattle.std.proofs.Common.{◌≡◌, [], drop}
use Rattle.cost_page.specs.Page.{most}
use Rattle.cost_page.proofs.most.most_of.Given as goal

abbrev pub invariant-loop-place : goal.invariant-loop-place
invariant-loop-place l = most l.top.items (drop l.place-index l.places) ≡ most [] l.places
