use Rattle.t_intern.specs.Nodes.{at}
use Rattle.t_known.proofs.Counted.{are_few, are_more}
use Rattle.t_known.proofs.small.is_small.Goals as goal

pub returns-in-Some : goal.returns-in-Some
returns-in-Some c = are_few (at c.args.types.now c.args.n) c.in-Some.field-0 c.in-Some.ensures

pub returns-in-None : goal.returns-in-None
returns-in-None c = are_more (at c.args.types.now c.args.n) c.in-None.ensures
