use Rattle.talc_core.proofs.CompositionLemmas as lemmas
use Rattle.talc_core.proofs.laws.upgraded_traces_the_same.Goals as goal

pub returns : goal.returns
returns c = lemmas.upgraded_traces_the_same c.texts_keep_laws.ensures
