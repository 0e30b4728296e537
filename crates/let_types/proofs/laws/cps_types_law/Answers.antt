use Rattle.let_types.proofs.Typed as typed
use Rattle.let_types.proofs.laws.cps_types_law.Goals as goal

pub returns : goal.returns
returns c = typed.cps_types
