use Rattle.talc_core.proofs.FormLemmas as lemmas
use Rattle.talc_core.proofs.laws.shown_source_shows_the_same.Goals as goal

pub returns : goal.returns
returns c = lemmas.source_shows_the_same c.texts_keep_laws.ensures c.written_twice_is_written_once.ensures
