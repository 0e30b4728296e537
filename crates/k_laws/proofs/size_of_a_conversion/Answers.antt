use Rattle.k_laws.proofs.Size.{size_is}
use Rattle.k_laws.proofs.size_of_a_conversion.Goals as goal

pub returns : goal.returns
returns c = size_is
