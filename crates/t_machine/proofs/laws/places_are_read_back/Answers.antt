use Rattle.t_machine.proofs.Laying.{read_back}
use Rattle.t_machine.proofs.laws.places_are_read_back.Goals as goal

pub returns : goal.returns
returns c = read_back
