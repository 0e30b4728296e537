use Rattle.c_laws.proofs.Turns.{walks_close}
use Rattle.c_laws.proofs.walk_laws.walks_law.Goals as goal

pub returns : goal.returns
returns c = walks_close
