use Rattle.talc_core.proofs.CompositionLemmas as lemmas
use Rattle.talc_core.proofs.laws.bounded_is_taken.Goals as goal

pub returns : goal.returns
returns c = lemmas.bounded_is_taken
