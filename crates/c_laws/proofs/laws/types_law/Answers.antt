use Rattle.c_laws.proofs.BothTypings.{types_kept, reach_kept}
use Rattle.c_laws.proofs.laws.types_law.Goals as goal

pub returns-clause-typed : goal.returns-clause-typed
returns-clause-typed c = types_kept

pub returns-clause-reach : goal.returns-clause-reach
returns-clause-reach c = reach_kept
