use Rattle.x_listing.proofs.Turns.{more_steps, more_bytes}
use Rattle.x_listing.proofs.lines.write_steps.Goals as goal

pub loop-instr-preserved : goal.loop-instr-preserved
loop-instr-preserved c = record {
  lines = more_steps c.loop-instr.instr-index c.args.instrs.now _ c.loop-instr-test.true c.loop-instr.page.items _ _
      c.loop-instr.next _ c.in_ok-next.ensures.line c.in_ok-next.ensures.next c.loop-instr.invariant.lines;
  next = more_bytes c.loop-instr.instr-index c.args.instrs.now _ c.loop-instr-test.true c.loop-instr.next _ _
      c.in_ok-next.ensures.next c.loop-instr.invariant.next;
}
