use Rattle.t_gen_laws.proofs.Accepted.{accepted}
use Rattle.t_gen_laws.proofs.types_are_kept.Goals as goal

pub returns : goal.returns
returns c = accepted
