use Rattle.talc_core.proofs.CostTimed as lemmas
use Rattle.talc_core.proofs.laws.counts_are_times.Goals as goal

pub returns : goal.returns
returns c = lemmas.counts_are_times
