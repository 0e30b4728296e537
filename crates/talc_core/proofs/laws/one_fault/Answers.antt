use Rattle.talc_core.proofs.FaultLemmas as lemmas
use Rattle.talc_core.proofs.laws.one_fault.Goals as goal

pub returns : goal.returns
returns c = lemmas.one_fault c.texts_keep_laws.ensures
