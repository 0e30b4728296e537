use Rattle.type_path.proofs.AssemblyWalks.{first, none}
use Rattle.type_path.proofs.laws.assembly_differences.Goals as goal

pub returns-clause-first : goal.returns-clause-first
returns-clause-first c = first

pub returns-clause-none : goal.returns-clause-none
returns-clause-none c = none
