use Rattle.std.proofs.Common.{◌≡◌, ◌++◌, length, drop}
use Rattle.t_terms.specs.Read.{body, end_of, spanned}
use Rattle.cost_page.specs.Places.{rest_places, block_places}
use Rattle.cost_page.proofs.places.put_block.Given as goal

abbrev pub invariant-loop-step : goal.invariant-loop-step
invariant-loop-step l = record {
  at : l.index ≡ l.step-index;
  places : l.places.items ++ rest_places l.counts (length l.places.items) l.block.name l.index
      (body (drop l.step-index l.step-items)) (end_of l.block.end) l.block.end_span
      ≡ l.fn.places.items ++ block_places l.counts (length l.fn.places.items) (spanned l.block);
}
