use Rattle.k_laws.proofs.Whole.{reach}
use Rattle.k_laws.proofs.conversion_keeps_reach.Goals as goal

pub returns : goal.returns
returns c = reach
