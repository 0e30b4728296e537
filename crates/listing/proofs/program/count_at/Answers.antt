use Rattle.std.proofs.Common.{refl}
use Rattle.listing.proofs.program.count_at.Goals as goal

pub returns-then-met : goal.returns-then-met
returns-then-met c = rw c.if-met.true refl

pub returns : goal.returns
returns c = rw c.if-met.false c.steps_before.ensures
