use Rattle.talc_core.proofs.FaultLemmas as lemmas
use Rattle.talc_core.proofs.laws.no_fault_where_taken.Goals as goal

pub returns : goal.returns
returns c = lemmas.no_fault_where_taken c.texts_keep_laws.ensures
