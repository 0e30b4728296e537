use Rattle.t_machine.proofs.Exactly.{halted_exactly, spent_exactly}
use Rattle.t_machine.proofs.laws.runs_answer_exactly.Goals as goal

pub returns-clause-halted : goal.returns-clause-halted
returns-clause-halted c = halted_exactly c.programs_keep_laws.ensures

pub returns-clause-spent : goal.returns-clause-spent
returns-clause-spent c = spent_exactly c.programs_keep_laws.ensures
