use Rattle.let_types.proofs.Typed as typed
use Rattle.let_types.proofs.laws.closed_types_law.Goals as goal

pub returns : goal.returns
returns c = typed.closed_types
