use Rattle.talc_core.proofs.FormLemmas as lemmas
use Rattle.talc_core.proofs.laws.shown_source_is_the_same.Goals as goal

pub returns : goal.returns
returns c = lemmas.source_is_the_same c.written_twice_is_written_once.ensures
