use Rattle.k_pass.specs.Machine.{FrameIn, PendingIn}
use Rattle.k_pass.specs.declared.work.Control.TheVariants as C
use Rattle.k_pass.proofs.Moves.{next_is}
use Rattle.k_pass.proofs.Gives.{takes_test}
use Rattle.k_pass.proofs.Inside.{all_push}
use Rattle.k_pass.proofs.give.give_test.Goals as goal

pub returns-clause-steps : goal.returns-clause-steps
returns-clause-steps c =
    next_is c.enter.result (C.Walk c.args.zero c.args.given.depth) _ c.enter.ensures
    (λ waits t. takes_test t c.args.work.now c.put_one.new.out c.enter.new.frames c.push.new.self c.args.zero
    c.args.other c.args.level c.args.given.atom c.args.given.depth
    c.in_ok-put_one.ensures c.in_ok-push.ensures.items waits)

pub returns-clause-inside : goal.returns-clause-inside
returns-clause-inside c =
    next_is c.enter.result (C.Walk c.args.zero c.args.given.depth) _ c.enter.ensures
    (λ waits m low high kept. (
      low,
      all_push (FrameIn m) _ _ _ waits kept.0 tt,
      all_push (PendingIn m) _ _ _ c.in_ok-push.ensures.items kept.1 high,
    ))
