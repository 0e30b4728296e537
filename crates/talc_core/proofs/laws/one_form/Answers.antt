use Rattle.talc_core.proofs.FormLemmas as lemmas
use Rattle.talc_core.proofs.laws.one_form.Goals as goal

pub returns : goal.returns
returns c = lemmas.one_form c.texts_keep_laws.ensures
