use Rattle.std.proofs.Common.{◌≡◌, take}
use Rattle.a_terms.proofs.Weighed.{sum_of, block_sum}
use Rattle.a_terms.proofs.sizes.blocks_size.Given as goal

abbrev pub invariant-loop-block : goal.invariant-loop-block
invariant-loop-block l = l.total ≡ sum_of block_sum (take l.block-index l.blocks)
