use Rattle.talc_core.proofs.BindingLemmas as lemmas
use Rattle.talc_core.proofs.laws.types_end_as_typeof.Goals as goal

pub returns : goal.returns
returns c = lemmas.types_end_as_typeof
