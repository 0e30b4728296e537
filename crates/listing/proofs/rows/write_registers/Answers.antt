use Rattle.listing.proofs.Steps.{no_more, one_more}
use Rattle.listing.proofs.rows.write_registers.Goals as goal

pub loop-i-preserved : goal.loop-i-preserved
loop-i-preserved c =
    one_more c.args.names c.loop-i.i _ _ _ _ c.args.regs.now _ c.index-regs-i.is c.loop-i-test.true c.loop-i.invariant
    c.in_ok-write_separator.ensures c.in_ok-write_register.ensures

pub returns : goal.returns
returns c = no_more c.args.names c.loop-i.i _ _ c.args.regs.now c.loop-i-test.false c.loop-i.invariant
