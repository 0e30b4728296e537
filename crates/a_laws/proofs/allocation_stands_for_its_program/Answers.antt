use Rattle.a_laws.proofs.Standing.{alloc_stands}
use Rattle.a_laws.proofs.allocation_stands_for_its_program.Goals as goal

pub returns : goal.returns
returns c = alloc_stands c.types_are_kept.ensures
