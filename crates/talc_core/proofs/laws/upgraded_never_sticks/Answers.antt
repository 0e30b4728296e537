use Rattle.talc_core.proofs.CompositionLemmas as lemmas
use Rattle.talc_core.proofs.laws.upgraded_never_sticks.Goals as goal

pub returns : goal.returns
returns c = lemmas.upgraded_never_sticks c.texts_keep_laws.ensures
