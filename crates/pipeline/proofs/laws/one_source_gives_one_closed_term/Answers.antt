use Rattle.pipeline.proofs.OneTranslation.{one_closed_term}
use Rattle.pipeline.proofs.laws.one_source_gives_one_closed_term.Goals as goal

pub returns : goal.returns
returns c = one_closed_term
