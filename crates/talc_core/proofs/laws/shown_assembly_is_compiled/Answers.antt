use Rattle.talc_core.proofs.FormLemmas as lemmas
use Rattle.talc_core.proofs.laws.shown_assembly_is_compiled.Goals as goal

pub returns : goal.returns
returns c = lemmas.assembly_is_compiled c.texts_keep_laws.ensures
