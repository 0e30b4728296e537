use Rattle.a_terms.specs.Read.{atree}
use Rattle.a_pass.proofs.Every.{closed_is}
use Rattle.a_pass.proofs.constants.is_closed.Goals as goal

pub returns : goal.returns
returns c = closed_is c.below.result (atree c.args.t.now) c.below.ensures.0 c.below.ensures.1
