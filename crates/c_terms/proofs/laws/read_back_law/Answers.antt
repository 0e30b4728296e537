use Rattle.c_terms.proofs.Backs.{reads_back, one_term}
use Rattle.c_terms.proofs.laws.read_back_law.Goals as goal

pub returns-clause-back : goal.returns-clause-back
returns-clause-back c = reads_back

pub returns-clause-one : goal.returns-clause-one
returns-clause-one c = one_term
