use Rattle.talc_core.proofs.ExplainLemmas as lemma
use Rattle.talc_core.proofs.laws.checked_is_explained.Goals as goal

pub returns : goal.returns
returns c = lemma.checked_is_explained c.no_token_fault_where_cut.ensures
