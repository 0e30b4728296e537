use Rattle.t_spill.proofs.Data.{made_data}
use Rattle.t_spill.proofs.typing.fields_of.Goals as goal

pub returns : goal.returns
returns c = made_data c.loop-item.made.items c.args.items.now c.loop-item.item-index c.loop-item.invariant
    c.loop-item-test.false
