use Rattle.f_check.proofs.Steps.{entered}
use Rattle.f_check.proofs.walk.enter.Goals as goal

pub returns-clause-goes : goal.returns-clause-goes
returns-clause-goes c =
    entered c.args.term.now c.args.state.now c.push.new.frames c.args.frame c.args.j c.in_ok-push.ensures c.requires
