use Rattle.t_rules.proofs.Faulty.{at_most_one_file}
use Rattle.t_rules.proofs.faults.at_most_one_file.Goals as goal

pub returns : goal.returns
returns c = at_most_one_file
