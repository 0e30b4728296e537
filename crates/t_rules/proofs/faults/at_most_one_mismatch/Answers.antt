use Rattle.t_rules.proofs.Faulty.{at_most_one_mismatch}
use Rattle.t_rules.proofs.faults.at_most_one_mismatch.Goals as goal

pub returns : goal.returns
returns c = at_most_one_mismatch
