use Rattle.t_reader.proofs.Found.{bind_next, bind_done}
use Rattle.t_reader.proofs.scope.bind_all.Goals as goal

pub loop-name-preserved : goal.loop-name-preserved
loop-name-preserved c =
    let l = c.loop-name in
    bind_next c.args.text.now c.args.names.now l.name-index _ _ _ l.invariant c.loop-name-test.true
    (rw c.spelling.ensures at c.in_ok-push.ensures.pushed)

pub returns-clause-bound : goal.returns-clause-bound
returns-clause-bound c =
    let l = c.loop-name in
    bind_done c.args.text.now c.args.names.now l.name-index _ _ l.invariant c.loop-name-test.false
