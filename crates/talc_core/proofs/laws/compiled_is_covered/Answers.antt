use Rattle.talc_core.proofs.CompositionLemmas as lemmas
use Rattle.talc_core.proofs.laws.compiled_is_covered.Goals as goal

pub returns : goal.returns
returns c = lemmas.compiled_is_covered c.texts_keep_laws.ensures c.seldom_runs_are_covered.ensures
