use Rattle.t_gen_laws.proofs.TypedEach.{types_within}
use Rattle.t_gen_laws.proofs.types_stay_within.Goals as goal

pub returns : goal.returns
returns c = types_within
