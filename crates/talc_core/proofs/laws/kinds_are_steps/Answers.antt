use Rattle.talc_core.proofs.CostSums as lemmas
use Rattle.talc_core.proofs.laws.kinds_are_steps.Goals as goal

pub returns : goal.returns
returns c = lemmas.kinds_are_steps c.erased_code_stands_at_its_place.ensures
