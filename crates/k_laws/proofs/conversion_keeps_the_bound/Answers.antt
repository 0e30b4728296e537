use Rattle.k_laws.proofs.Whole.{bound}
use Rattle.k_laws.proofs.conversion_keeps_the_bound.Goals as goal

pub returns : goal.returns
returns c = bound
