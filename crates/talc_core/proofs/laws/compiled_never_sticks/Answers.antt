use Rattle.talc_core.proofs.CompositionLemmas as lemmas
use Rattle.talc_core.proofs.laws.compiled_never_sticks.Goals as goal

pub returns : goal.returns
returns c = lemmas.compiled_never_sticks c.texts_keep_laws.ensures
