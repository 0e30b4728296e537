use Rattle.talc_faults.proofs.PathLemmas.{path_is_short}
use Rattle.talc_faults.proofs.line_laws.paths_are_short.Goals as goal

pub returns : goal.returns
returns c = path_is_short
