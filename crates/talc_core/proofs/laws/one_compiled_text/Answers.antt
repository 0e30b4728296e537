use Rattle.talc_core.proofs.FormLemmas as lemmas
use Rattle.talc_core.proofs.laws.one_compiled_text.Goals as goal

pub returns : goal.returns
returns c = lemmas.one_compiled_text c.texts_keep_laws.ensures
