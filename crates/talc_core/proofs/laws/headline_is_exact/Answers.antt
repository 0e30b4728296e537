use Rattle.talc_core.proofs.ExactLemmas as lemmas
use Rattle.talc_core.proofs.laws.headline_is_exact.Goals as goal

pub returns : goal.returns
returns c = lemmas.exactly c.texts_keep_laws.ensures
