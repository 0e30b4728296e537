use Rattle.cost_page.proofs.Equals.{first_of_equals}
use Rattle.cost_page.proofs.laws.first_of_equals.Goals as goal

pub returns : goal.returns
returns c = first_of_equals
