use Rattle.talc_core.proofs.CompositionLemmas as lemmas
use Rattle.talc_core.proofs.laws.compiled_goes_on.Goals as goal

pub returns : goal.returns
returns c = lemmas.compiled_goes_on c.texts_keep_laws.ensures
