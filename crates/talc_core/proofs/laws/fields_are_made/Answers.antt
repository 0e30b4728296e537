use Rattle.talc_core.proofs.CostSums as lemmas
use Rattle.talc_core.proofs.laws.fields_are_made.Goals as goal

pub returns : goal.returns
returns c = lemmas.fields_are_made c.erased_code_stands_at_its_place.ensures
