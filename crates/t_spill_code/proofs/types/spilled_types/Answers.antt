use Rattle.t_spill_code.proofs.Made.{made_types}
use Rattle.t_spill_code.proofs.types.spilled_types.Goals as goal

pub returns : goal.returns
returns c =
    made_types c.args.split.low c.loop-t.made.items c.args.ts.now c.loop-t.t-index c.loop-t.invariant
    c.loop-t-test.false
