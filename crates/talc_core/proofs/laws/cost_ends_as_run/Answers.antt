use Rattle.talc_core.proofs.CostLemmas as lemmas
use Rattle.talc_core.proofs.laws.cost_ends_as_run.Goals as goal

pub returns : goal.returns
returns c = lemmas.cost_ends_as_run
