use Rattle.talc_wanted.proofs.SourceAllKinds.{all_are_told}
use Rattle.talc_wanted.proofs.source_laws.all_are_told.Goals as goal

pub returns : goal.returns
returns c = all_are_told
