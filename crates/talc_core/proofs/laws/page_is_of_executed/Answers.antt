use Rattle.talc_core.proofs.CostTimed as lemmas
use Rattle.talc_core.proofs.laws.page_is_of_executed.Goals as goal

pub returns : goal.returns
returns c = lemmas.page_is_of_executed
