use Rattle.x_pass.proofs.Measures.{size_more, short_next}
use Rattle.x_pass.proofs.layout.block_size.Goals as goal

pub loop-instr-preserved : goal.loop-instr-preserved
loop-instr-preserved c = record {
  sum = size_more c.loop-instr.instr-index c.as_slice-body.result.now c.args.block.now.end _ c.loop-instr.all
      c.in_ok-all.all _ c.in_ok-size.size c.loop-instr-test.true c.in_ok-size.ensures c.in_ok-all.ensures
      c.loop-instr.invariant.sum;
  short = short_next c.loop-instr.instr-index c.as_slice-body.result.now c.loop-instr.invariant.short;
}
