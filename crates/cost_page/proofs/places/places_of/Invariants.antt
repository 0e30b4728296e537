use Rattle.std.proofs.Common.{◌≡◌, ◌++◌, length, drop}
use Rattle.t_terms.specs.Read.{spanned_blocks}
use Rattle.cost_page.specs.Places.{places}
use Rattle.cost_page.proofs.places.places_of.Given as goal

abbrev pub invariant-loop-block : goal.invariant-loop-block
invariant-loop-block l = l.made.items ++ places l.counts (length l.made.items)
    (spanned_blocks (drop l.block-index l.blocks)) ≡ places l.counts 0 (spanned_blocks l.blocks)
