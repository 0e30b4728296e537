use Rattle.calc_core.specs.TyLaws.{put_put}
use Rattle.calc_core.proofs.laws.puts_exchange.Goals as goal

pub returns : goal.returns
returns c = put_put
