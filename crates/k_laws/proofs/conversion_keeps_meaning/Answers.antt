use Rattle.k_laws.proofs.Whole.{meaning}
use Rattle.k_laws.proofs.conversion_keeps_meaning.Goals as goal

pub returns : goal.returns
returns c = meaning c.programs_are_never_stuck.ensures
