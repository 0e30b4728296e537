use Rattle.pipeline.proofs.OneTranslation.{one_program}
use Rattle.pipeline.proofs.laws.one_source_gives_one_program.Goals as goal

pub returns : goal.returns
returns c = one_program
