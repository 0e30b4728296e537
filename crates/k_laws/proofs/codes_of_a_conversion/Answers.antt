use Rattle.k_laws.proofs.Codes.{codes_are_sites}
use Rattle.k_laws.proofs.codes_of_a_conversion.Goals as goal

pub returns : goal.returns
returns c = codes_are_sites
