use Rattle.t_text.proofs.First.{begins_so}
use Rattle.t_text.proofs.assembly_begins_so.Goals as goal

pub returns : goal.returns
returns c = begins_so
