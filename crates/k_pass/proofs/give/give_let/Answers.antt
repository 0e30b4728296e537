use Rattle.f_terms.specs.Noted.{EVar}
use Rattle.k_pass.specs.Machine.{FrameIn, PendingIn}
use Rattle.k_pass.specs.declared.work.Control.TheVariants as C
use Rattle.k_pass.proofs.Moves.{next_is}
use Rattle.k_pass.proofs.Gives.{let_tail, let_rest}
use Rattle.k_pass.proofs.Inside.{all_push, all_pop, all_same}
use Rattle.k_pass.proofs.give.give_let.Goals as goal

pub returns-in-Some-clause-steps : goal.returns-in-Some-clause-steps
returns-in-Some-clause-steps c =
    next_is c.enter.result (C.Walk c.args.body c.args.given.depth) _ c.enter.ensures
    (λ waits t. let_tail t c.args.work.now c.take_tail.new.stack c.enter.new.frames c.push-2.new.self c.push.new.self
    c.args.body c.in-Some.level c.args.given.atom c.args.given.depth
    (c.in-Some.ensures t) waits c.in_ok-push.ensures.items c.in_ok-push-2.ensures.items)

pub returns-in-None-clause-steps : goal.returns-in-None-clause-steps
returns-in-None-clause-steps c =
    next_is c.enter-in-None.result (C.Walk c.args.body c.args.given.depth) _ c.enter-in-None.ensures
    (λ waits t. let none = c.in-None.ensures t in
    let_rest t c.args.work.now c.take_tail.new.stack c.enter-in-None.new.frames c.push-2.new.self c.push.new.self
    c.args.body c.args.given.atom c.args.given.depth
    none.0 none.1 waits c.in_ok-push.ensures.items c.in_ok-push-2.ensures.items)

pub returns-in-Some-clause-inside : goal.returns-in-Some-clause-inside
returns-in-Some-clause-inside c =
    next_is c.enter.result (C.Walk c.args.body c.args.given.depth) _ c.enter.ensures
    (λ waits m low kept. (
      low,
      all_push (FrameIn m) _ _ _ waits (all_pop (FrameIn m) _ _ _ (c.in-Some.ensures (λ i. EVar 0)) kept.0).0
          tt,
      all_push (PendingIn m) _ _ _ c.in_ok-push-2.ensures.items kept.1 tt,
    ))

pub returns-in-None-clause-inside : goal.returns-in-None-clause-inside
returns-in-None-clause-inside c =
    next_is c.enter-in-None.result (C.Walk c.args.body c.args.given.depth) _ c.enter-in-None.ensures
    (λ waits m low kept. (
      low,
      all_push (FrameIn m) _ _ _ waits (all_same (FrameIn m) _ _ (c.in-None.ensures (λ i. EVar 0)).0 kept.0)
          tt,
      all_push (PendingIn m) _ _ _ c.in_ok-push-2.ensures.items kept.1 tt,
    ))
