use Rattle.f_terms.proofs.Occurs.{types_left}
use Rattle.f_terms.proofs.table.types_aside.Goals as goal

pub returns : goal.returns
returns c = types_left
