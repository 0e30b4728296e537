use Rattle.type_path.proofs.AssemblyWalks.{misfit_first, misfit_none, misfit_shown}
use Rattle.type_path.proofs.laws.assembly_misfits.Goals as goal

pub returns-clause-first : goal.returns-clause-first
returns-clause-first c = misfit_first

pub returns-clause-none : goal.returns-clause-none
returns-clause-none c = misfit_none

pub returns-clause-shown : goal.returns-clause-shown
returns-clause-shown c = misfit_shown
