use Rattle.talc_core.proofs.WrittenLemmas as lemmas
use Rattle.talc_core.proofs.laws.one_written_text.Goals as goal

pub returns : goal.returns
returns c = lemmas.one_written_text c.texts_keep_laws.ensures
