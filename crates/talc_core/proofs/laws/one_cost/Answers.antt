use Rattle.talc_core.proofs.CostLemmas as lemmas
use Rattle.talc_core.proofs.laws.one_cost.Goals as goal

pub returns : goal.returns
returns c = lemmas.one_cost c.texts_keep_laws.ensures c.runs_count_alike.ensures
