use Rattle.h_pass.proofs.OneHoisting.{one_hoisting}
use Rattle.h_pass.proofs.laws.one_hoisting_law.Goals as goal

pub returns : goal.returns
returns c = one_hoisting
