use Rattle.talc_core.proofs.CostSums as lemmas
use Rattle.talc_core.proofs.laws.rows_add_up.Goals as goal

pub returns : goal.returns
returns c = lemmas.rows_add_up c.erased_code_stands_at_its_place.ensures c.kinds_add_up.ensures
