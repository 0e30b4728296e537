use Rattle.k_laws.proofs.Reach.{reach_kept}
use Rattle.k_laws.proofs.reach_is_kept.Goals as goal

pub returns : goal.returns
returns c = reach_kept
