use Rattle.talc_core.proofs.FormLemmas as lemmas
use Rattle.talc_core.proofs.laws.shown_source_is_kept.Goals as goal

pub returns : goal.returns
returns c = lemmas.source_is_kept c.texts_keep_laws.ensures c.written_twice_is_written_once.ensures
