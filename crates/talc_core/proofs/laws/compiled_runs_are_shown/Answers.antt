use Rattle.talc_core.proofs.CompositionLemmas as lemmas
use Rattle.talc_core.proofs.laws.compiled_runs_are_shown.Goals as goal

pub returns : goal.returns
returns c = lemmas.compiled_runs_are_shown c.texts_keep_laws.ensures
