use Rattle.f_terms.proofs.Faulty.{no_fault_beside}
use Rattle.f_terms.proofs.laws.no_fault_beside_a_pass.Goals as goal

pub returns : goal.returns
returns c = no_fault_beside
