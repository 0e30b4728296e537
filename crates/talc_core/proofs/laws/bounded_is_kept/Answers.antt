use Rattle.talc_core.proofs.WrittenLemmas as lemmas
use Rattle.talc_core.proofs.laws.bounded_is_kept.Goals as goal

pub returns : goal.returns
returns c = lemmas.bounded_is_kept c.texts_keep_laws.ensures
