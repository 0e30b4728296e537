use Rattle.t_rules.proofs.Faulty.{no_fault_typed}
use Rattle.t_rules.proofs.faults.no_fault_where_typed.Goals as goal

pub returns : goal.returns
returns c = no_fault_typed
