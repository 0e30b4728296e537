use Rattle.pipeline.proofs.OneTranslation.{one_program_within}
use Rattle.pipeline.proofs.laws.one_source_gives_one_program_within.Goals as goal

pub returns : goal.returns
returns c = one_program_within
