use Rattle.talc_core.proofs.Decided as lemmas
use Rattle.talc_core.proofs.laws.taken_or_fault.Goals as goal

pub returns : goal.returns
returns c = lemmas.taken_or_fault c.texts_keep_laws.ensures
