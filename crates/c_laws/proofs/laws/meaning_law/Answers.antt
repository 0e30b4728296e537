use Rattle.c_laws.proofs.Meaning.{meaning_kept}
use Rattle.c_laws.proofs.laws.meaning_law.Goals as goal

pub returns : goal.returns
returns c = meaning_kept c.never_stuck_law.ensures
