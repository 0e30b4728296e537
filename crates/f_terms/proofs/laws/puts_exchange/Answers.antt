use Rattle.f_terms.specs.TyLaws.{put_put}
use Rattle.f_terms.proofs.laws.puts_exchange.Goals as goal

pub returns : goal.returns
returns c = put_put
