use Rattle.std.proofs.Common.{arith}
use Rattle.h_pass.proofs.parts.fill.Goals as goal
use Rattle.h_pass.proofs.Stepping.{fill_blocks, fill_past, fill_rows}

pub returns-then-at-len-clause-made : goal.returns-then-at-len-clause-made
returns-then-at-len-clause-made c =
    fill_blocks c.args.blocks.now.items c.args.label c.index_mut.result.now c.args.body
    (omega (arith, c.if-at-len.true, c.len.ensures)) c.index_mut.ensures.value

pub returns-then-at-len-clause-rows : goal.returns-then-at-len-clause-rows
returns-then-at-len-clause-rows c = fill_rows c.args.blocks.now.items c.args.label _

pub returns-else-at-len-clause-made : goal.returns-else-at-len-clause-made
returns-else-at-len-clause-made c =
    fill_past c.args.blocks.now.items c.args.label c.args.body (omega (arith, c.if-at-len.false, c.len.ensures))
