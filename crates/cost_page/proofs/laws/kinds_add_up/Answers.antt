use Rattle.cost_page.proofs.KindSums.{kinds_add_up}
use Rattle.cost_page.proofs.laws.kinds_add_up.Goals as goal

pub returns : goal.returns
returns c = kinds_add_up
