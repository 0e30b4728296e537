use Rattle.let_types.proofs.Typed as typed
use Rattle.let_types.proofs.laws.hoisted_types_law.Goals as goal

pub returns : goal.returns
returns c = typed.hoisted_types
