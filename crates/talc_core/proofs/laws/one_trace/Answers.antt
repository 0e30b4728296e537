use Rattle.talc_core.proofs.TraceLawLemmas as lemmas
use Rattle.talc_core.proofs.laws.one_trace.Goals as goal

pub returns : goal.returns
returns c = lemmas.one_trace c.texts_keep_laws.ensures c.one_line.ensures
