use Rattle.h_pass.proofs.laws.hoist_meaning_law.Goals as goal
use Rattle.h_pass.proofs.Hoisting.{hoist_kept}

pub returns : goal.returns
returns c = hoist_kept
