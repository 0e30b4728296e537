use Rattle.talc_core.proofs.CompositionLemmas as lemmas
use Rattle.talc_core.proofs.laws.compiled_runs_are_evaluations.Goals as goal

pub returns : goal.returns
returns c = lemmas.compiled_runs_are_evaluations c.texts_keep_laws.ensures
