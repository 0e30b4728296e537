use Rattle.t_gen_laws.proofs.Wholes.{whole}
use Rattle.t_gen_laws.proofs.invariant_is_kept.Goals as goal

pub returns : goal.returns
returns c = whole
