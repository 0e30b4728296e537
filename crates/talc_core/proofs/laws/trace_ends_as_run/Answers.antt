use Rattle.talc_core.proofs.TraceLawLemmas as lemmas
use Rattle.talc_core.proofs.laws.trace_ends_as_run.Goals as goal

pub returns : goal.returns
returns c = lemmas.trace_ends_as_run
