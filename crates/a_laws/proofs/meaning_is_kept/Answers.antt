use Rattle.a_laws.proofs.Meaning.{alloc_kept}
use Rattle.a_laws.proofs.meaning_is_kept.Goals as goal

pub returns : goal.returns
returns c = alloc_kept c.h_never_stuck_law.ensures c.allocation_stands_for_its_program.ensures
