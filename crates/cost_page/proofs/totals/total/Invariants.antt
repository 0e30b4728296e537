use Rattle.std.proofs.Common.{◌≡◌, ◌+◌, drop}
use Rattle.std.specs.Prelude.{sum_by}
use Rattle.cost_page.specs.Page.{weight, capped, total}
use Rattle.cost_page.proofs.totals.total.Given as goal

abbrev pub invariant-loop-place : goal.invariant-loop-place
invariant-loop-place l = record {
  few : l.sum ≡ capped l.sum;
  all : capped (l.sum + sum_by (weight l.measure) (drop l.place-index l.places)) ≡ total l.measure l.places;
}
