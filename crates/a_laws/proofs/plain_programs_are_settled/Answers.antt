use Rattle.a_laws.proofs.Settling.{settled}
use Rattle.a_laws.proofs.plain_programs_are_settled.Goals as goal

pub returns : goal.returns
returns c = settled
