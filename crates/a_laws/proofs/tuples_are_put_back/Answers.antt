use Rattle.a_laws.proofs.PutBack.{put_back}
use Rattle.a_laws.proofs.tuples_are_put_back.Goals as goal

pub returns : goal.returns
returns c = put_back
