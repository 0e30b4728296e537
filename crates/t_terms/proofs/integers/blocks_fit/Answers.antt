use Rattle.std.proofs.Common.{List}
use Rattle.t_terms.specs.declared.block.Block.{Block}
use Rattle.t_terms.specs.Read.{blocks_of}
use Rattle.t_terms.specs.Values.{BlocksValues}
use Rattle.t_terms.specs.Whole.{ValueFits}
use Rattle.t_terms.proofs.Fitting.{at_item, at_end}
use Rattle.t_terms.proofs.integers.blocks_fit.Goals as goal

abbrev Fits : List Block → Type 0
Fits xs = BlocksValues ValueFits (blocks_of xs)

pub loop-block-init : goal.loop-block-init
loop-block-init c = λ x. x

pub loop-block-preserved : goal.loop-block-preserved
loop-block-preserved c = λ rest.
    c.loop-block.invariant
    (at_item Fits c.args.blocks.now c.loop-block.block-index c.block-item.result c.block-item.is c.loop-block-test.true
    (rw c.deref.ensures.value at c.body_fits.ensures, rest))

pub returns : goal.returns
returns c =
    c.loop-block.invariant (at_end Fits c.args.blocks.now c.loop-block.block-index c.loop-block-test.false tt)
