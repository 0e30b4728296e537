use Rattle.t_spill_laws.proofs.Small.{same}
use Rattle.t_spill_laws.proofs.few_registers_may_stay.Goals as goal

pub returns : goal.returns
returns c = same
