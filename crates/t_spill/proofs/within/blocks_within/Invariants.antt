use Rattle.std.proofs.Common.{◌↔◌, drop}
use Rattle.t_terms.specs.Read.{blocks_of}
use Rattle.t_spill_laws.specs.Bound.{InBlocks}
use Rattle.t_spill.proofs.within.blocks_within.Given as goal

abbrev pub invariant-loop-block : goal.invariant-loop-block
invariant-loop-block l = InBlocks l.k (blocks_of l.blocks) ↔ InBlocks l.k (blocks_of (drop l.block-index l.blocks))
