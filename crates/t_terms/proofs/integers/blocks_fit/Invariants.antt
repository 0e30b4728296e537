use Rattle.std.proofs.Common.{drop}
use Rattle.t_terms.specs.Read.{blocks_of}
use Rattle.t_terms.specs.Values.{BlocksValues}
use Rattle.t_terms.specs.Whole.{ValueFits}
use Rattle.t_terms.proofs.integers.blocks_fit.Given as goal

abbrev pub invariant-loop-block : goal.invariant-loop-block
invariant-loop-block l =
    BlocksValues ValueFits (blocks_of (drop l.block-index l.blocks)) → BlocksValues ValueFits (blocks_of l.blocks)
