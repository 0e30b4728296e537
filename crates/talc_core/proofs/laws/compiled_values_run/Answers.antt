use Rattle.talc_core.proofs.CompositionLemmas as lemmas
use Rattle.talc_core.proofs.laws.compiled_values_run.Goals as goal

pub returns : goal.returns
returns c = lemmas.compiled_values_run c.texts_keep_laws.ensures
