use Rattle.t_spill_code.proofs.Made.{made_cells}
use Rattle.t_spill_code.proofs.types.cell_types.Goals as goal

pub returns : goal.returns
returns c =
    made_cells c.args.split.low c.loop-reg.made.items c.args.regs.now c.loop-reg.reg-index c.loop-reg.invariant
    c.loop-reg-test.false
