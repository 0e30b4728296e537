use Rattle.talc_core.proofs.FormLemmas as lemmas
use Rattle.talc_core.proofs.laws.shown_source_is_taken.Goals as goal

pub returns : goal.returns
returns c = lemmas.source_is_taken c.written_texts_are_within.ensures
