use Rattle.w_laws.proofs.Main.{meaning_is_kept}
use Rattle.w_laws.proofs.meaning_is_kept.Goals as goal

pub returns : goal.returns
returns c = meaning_is_kept c.programs_keep_laws.ensures
