use Rattle.t_spill_laws.proofs.Small.{framed}
use Rattle.t_spill_laws.proofs.registers_are_bounded.Goals as goal

pub returns : goal.returns
returns c = framed
