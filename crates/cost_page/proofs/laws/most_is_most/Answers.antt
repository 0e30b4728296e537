use Rattle.cost_page.proofs.Topmost.{most_is_most}
use Rattle.cost_page.proofs.laws.most_is_most.Goals as goal

pub returns : goal.returns
returns c = most_is_most
