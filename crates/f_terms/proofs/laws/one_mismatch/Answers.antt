use Rattle.f_terms.proofs.Faulty.{one_mismatch}
use Rattle.f_terms.proofs.laws.one_mismatch.Goals as goal

pub returns : goal.returns
returns c = one_mismatch
