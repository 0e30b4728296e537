use Rattle.k_laws.proofs.Kept.{kept}
use Rattle.k_laws.proofs.meaning_is_kept.Goals as goal

pub returns : goal.returns
returns c = kept c.programs_are_never_stuck.ensures
