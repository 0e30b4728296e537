use Rattle.t_gen_laws.proofs.Flats.{flat}
use Rattle.t_gen_laws.proofs.packs_are_flat.Goals as goal

pub returns : goal.returns
returns c = flat
