use Rattle.talc_core.proofs.ExplainLemmas as lemmas
use Rattle.talc_core.proofs.laws.taken_is_explained.Goals as goal

pub returns : goal.returns
returns c = lemmas.taken_is_explained c.assembly_begins_so.ensures
