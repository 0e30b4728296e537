use Rattle.a_laws.proofs.OneAllocating as lemmas
use Rattle.a_laws.proofs.one_program_stands_for_each.Goals as goal

pub returns : goal.returns
returns c = lemmas.one_allocation
