use Rattle.talc_core.proofs.WrittenLemmas as lemmas
use Rattle.talc_core.proofs.laws.one_upgrade.Goals as goal

pub returns : goal.returns
returns c = lemmas.one_upgrade c.texts_keep_laws.ensures
