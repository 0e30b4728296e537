use Rattle.a_laws.proofs.Asking as lemmas
use Rattle.a_laws.proofs.mallocs_are_asked.Goals as goal

pub returns : goal.returns
returns c = lemmas.mallocs_are_asked
