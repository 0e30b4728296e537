use Rattle.talc_core.proofs.CompositionLemmas as lemmas
use Rattle.talc_core.proofs.laws.bounded_has_few_registers.Goals as goal

pub returns : goal.returns
returns c = lemmas.bounded_has_few_registers c.texts_keep_laws.ensures
