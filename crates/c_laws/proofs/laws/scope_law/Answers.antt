use Rattle.c_laws.proofs.Closing.{close_in}
use Rattle.c_laws.proofs.Closed.{closed}
use Rattle.c_laws.proofs.laws.scope_law.Goals as goal

pub returns-clause-before : goal.returns-clause-before
returns-clause-before c = closed

pub returns-clause-after : goal.returns-clause-after
returns-clause-after c = close_in
