use Rattle.t_rules.proofs.Settled.{accepted_or_fault}
use Rattle.t_rules.proofs.faults.accepted_or_fault.Goals as goal

pub returns : goal.returns
returns c = accepted_or_fault
