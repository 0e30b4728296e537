use Rattle.k_laws.proofs.Types.{translated}
use Rattle.k_laws.proofs.conversion_is_a_translation.Goals as goal

pub returns : goal.returns
returns c = translated
