use Rattle.talc_core.proofs.CompositionLemmas as lemmas
use Rattle.talc_core.proofs.laws.compiled_is_taken.Goals as goal

pub returns : goal.returns
returns c = lemmas.compiled_is_taken
