use Rattle.k_laws.proofs.Typed.{types_kept}
use Rattle.k_laws.proofs.types_are_kept.Goals as goal

pub returns : goal.returns
returns c = types_kept
