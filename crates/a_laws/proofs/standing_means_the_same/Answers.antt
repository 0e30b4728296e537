use Rattle.a_laws.proofs.Meaning.{standing_means}
use Rattle.a_laws.proofs.standing_means_the_same.Goals as goal

pub returns : goal.returns
returns c = standing_means c.h_never_stuck_law.ensures
