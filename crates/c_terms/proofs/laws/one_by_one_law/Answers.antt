use Rattle.c_terms.proofs.Putting.{one_by_one}
use Rattle.c_terms.proofs.laws.one_by_one_law.Goals as goal

pub returns : goal.returns
returns c = one_by_one
