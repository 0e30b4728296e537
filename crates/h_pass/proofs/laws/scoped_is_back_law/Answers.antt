use Rattle.h_pass.proofs.laws.scoped_is_back_law.Goals as goal
use Rattle.h_pass.proofs.Fusing.{found_is}
use Rattle.h_pass.proofs.PutsBack.{is_hoisted}

pub returns-clause-back : goal.returns-clause-back
returns-clause-back c = is_hoisted

pub returns-clause-nodes : goal.returns-clause-nodes
returns-clause-nodes c = found_is
