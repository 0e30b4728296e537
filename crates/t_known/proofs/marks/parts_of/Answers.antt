use Rattle.t_intern.specs.Nodes.{at}
use Rattle.t_known.proofs.Sets.{other_has, no_pair}
use Rattle.t_known.proofs.marks.parts_of.Goals as goal

pub returns-then-fields-ne2 : goal.returns-then-fields-ne2
returns-then-fields-ne2 c =
    λ p. other_has c.args.types.now c.in-Some.fields.now (at c.args.types.now c.args.set) c.in-Some.ensures.0
    c.if-fields-ne2.true p

pub returns-in-None : goal.returns-in-None
returns-in-None c = λ p. no_pair (at c.args.types.now c.args.set) c.in-None.ensures p
