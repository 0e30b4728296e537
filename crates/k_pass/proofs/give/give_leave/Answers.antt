use Rattle.k_pass.proofs.Gives.{leaves}
use Rattle.k_pass.proofs.give.give_leave.Goals as goal

pub returns-in_ok-push-in-Some-clause-steps : goal.returns-in_ok-push-in-Some-clause-steps
returns-in_ok-push-in-Some-clause-steps c = λ t.
    leaves t c.args.work.now c.pop.new.self c.push.new.self c.in-Some.atom c.args.given.atom c.args.given.depth
    c.in-Some.ensures.items c.in_ok-push-in-Some.ensures.items
