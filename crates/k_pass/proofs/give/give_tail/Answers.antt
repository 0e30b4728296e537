use Rattle.std.proofs.Common.{ap}
use Rattle.k_terms.specs.Read.{ktys}
use Rattle.k_pass.proofs.Gives.{takes_tail}
use Rattle.k_pass.proofs.give.give_tail.Goals as goal

pub returns-clause-steps : goal.returns-clause-steps
returns-clause-steps c = λ t.
    takes_tail t c.args.work.now c.put_call.new.out c.args.level c.args.given.atom c.args.given.depth _
    c.in_ok-put_call.ensures (ap ktys c.new.ensures.items)
