use Rattle.f_terms.proofs.Faulty.{one_fault}
use Rattle.f_terms.proofs.laws.one_fault.Goals as goal

pub returns : goal.returns
returns c = one_fault
