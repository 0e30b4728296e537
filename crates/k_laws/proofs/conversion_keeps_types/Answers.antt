use Rattle.k_laws.proofs.Whole.{types}
use Rattle.k_laws.proofs.conversion_keeps_types.Goals as goal

pub returns : goal.returns
returns c = types
