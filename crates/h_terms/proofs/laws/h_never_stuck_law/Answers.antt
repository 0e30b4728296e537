use Rattle.std.proofs.Common.{subst}
use Rattle.h_terms.proofs.laws.h_never_stuck_law.Goals as goal
use Rattle.h_terms.proofs.Sound.{h_never_stuck}
use Rattle.calc_core.proofs.Ends.{Fine}

pub returns : goal.returns
returns c = λ ks t h n e. subst Fine e (h_never_stuck ks h.0 t h.1 n)
