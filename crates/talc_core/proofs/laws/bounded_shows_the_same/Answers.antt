use Rattle.talc_core.proofs.CompositionLemmas as lemmas
use Rattle.talc_core.proofs.laws.bounded_shows_the_same.Goals as goal

pub returns : goal.returns
returns c = lemmas.bounded_shows_the_same c.texts_keep_laws.ensures c.one_answer.ensures
