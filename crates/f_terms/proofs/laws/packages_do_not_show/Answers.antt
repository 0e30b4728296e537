use Rattle.f_terms.proofs.Replacing.{replaced_kept}
use Rattle.f_terms.proofs.laws.packages_do_not_show.Goals as goal

pub returns : goal.returns
returns c = replaced_kept
