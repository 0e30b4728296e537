use Rattle.talc_core.proofs.FormLemmas as lemmas
use Rattle.talc_core.proofs.laws.one_bounded_text.Goals as goal

pub returns : goal.returns
returns c = lemmas.one_bounded_text c.texts_keep_laws.ensures
