use Rattle.talc_core.proofs.CostSums as lemmas
use Rattle.talc_core.proofs.laws.entered_is_entries.Goals as goal

pub returns : goal.returns
returns c = lemmas.entered_is_entries c.erased_code_stands_at_its_place.ensures
