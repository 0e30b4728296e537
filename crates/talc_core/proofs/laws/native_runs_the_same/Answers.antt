use Rattle.talc_core.proofs.NativeLemmas as lemmas
use Rattle.talc_core.proofs.laws.native_runs_the_same.Goals as goal

pub returns : goal.returns
returns c = lemmas.native_runs_the_same c.texts_keep_laws.ensures
