use Rattle.talc_core.proofs.ExplainLemmas as lemma
use Rattle.talc_core.proofs.laws.one_explanation.Goals as goal

pub returns : goal.returns
returns c = lemma.one_explanation c.texts_keep_laws.ensures c.mismatches_keep_laws.ensures
