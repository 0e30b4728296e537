use Rattle.a_pass.proofs.Blocks.{made_none, made_next, made_all, row_at}
use Rattle.a_pass.proofs.program.all_blocks.Goals as goal

pub loop-one-init : goal.loop-one-init
loop-one-init c = made_none _ _ _ c.in_ok-made.ensures.items c.requires.first

pub block-requires : goal.block-requires
block-requires c =
    row_at c.args.blocks.now c.loop-one.one-index c.one-item.result c.loop-one-test.true c.one-item.is c.requires.rows

pub loop-one-preserved : goal.loop-one-preserved
loop-one-preserved c =
    made_next _ c.args.blocks.now c.loop-one.one-index c.one-item.result _ _ c.in_ok-b.b _ _ c.loop-one-test.true
    c.one-item.is c.in_ok-push.ensures.items c.in_ok-b.ensures.made c.in_ok-b.ensures.keeps c.in_ok-b.ensures.right
    c.loop-one.invariant

pub returns-clause-made : goal.returns-clause-made
returns-clause-made c =
    (made_all _ c.args.blocks.now c.loop-one.one-index _ _ c.loop-one-test.false c.loop-one.invariant).made

pub returns-clause-keeps : goal.returns-clause-keeps
returns-clause-keeps c =
    (made_all _ c.args.blocks.now c.loop-one.one-index _ _ c.loop-one-test.false c.loop-one.invariant).keeps

pub returns-clause-right : goal.returns-clause-right
returns-clause-right c =
    (made_all _ c.args.blocks.now c.loop-one.one-index _ _ c.loop-one-test.false c.loop-one.invariant).right
