use Rattle.f_terms.proofs.Decided.{pass_or_fault}
use Rattle.f_terms.proofs.laws.pass_or_fault.Goals as goal

pub returns : goal.returns
returns c = pass_or_fault
