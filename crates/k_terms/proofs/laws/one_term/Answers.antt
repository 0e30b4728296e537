use Rattle.k_terms.proofs.Backs.{one_term}
use Rattle.k_terms.proofs.laws.one_term.Goals as goal

pub returns : goal.returns
returns c = one_term
