use Rattle.t_machine.proofs.Covering.{steps_make, steps_covered}
use Rattle.t_machine.proofs.laws.steps_allocate_what_they_ask.Goals as goal

pub returns-clause-made : goal.returns-clause-made
returns-clause-made c = steps_make c.programs_keep_laws.ensures

pub returns-clause-covered : goal.returns-clause-covered
returns-clause-covered c = steps_covered c.programs_keep_laws.ensures
