use Rattle.talc_core.proofs.CostSums as lemmas
use Rattle.talc_core.proofs.laws.mallocs_are_tuples.Goals as goal

pub returns : goal.returns
returns c = lemmas.mallocs_are_tuples c.erased_code_stands_at_its_place.ensures
