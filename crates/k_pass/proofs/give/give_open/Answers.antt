use Rattle.std.proofs.Common.{ap}
use Rattle.f_terms.specs.Noted.{EVar}
use Rattle.k_terms.specs.K as K
use Rattle.k_terms.specs.Stream.{NUnpack}
use Rattle.k_pass.specs.Machine.{FrameIn, PendingIn}
use Rattle.k_pass.specs.declared.work.Control.TheVariants as C
use Rattle.k_pass.proofs.Moves.{next_is}
use Rattle.k_pass.proofs.Gives.{open_tail, open_rest}
use Rattle.k_pass.proofs.Inside.{all_push, all_pop, all_same}
use Rattle.k_pass.proofs.give.give_open.Goals as goal

pub returns-in-Some-clause-steps : goal.returns-in-Some-clause-steps
returns-in-Some-clause-steps c =
    let w = c.args.work.now in
    next_is c.enter.result (C.Walk c.args.body c.in_ok-inside.inside) _ c.enter.ensures
    (λ waits t. open_tail t w c.put_one.new.out c.take_tail.new.stack c.enter.new.frames c.push-3.new.self
    c.push-4.new.self c.push-2.new.self c.push.new.self c.args.body c.in-Some.level c.args.ty c.args.given.atom
    c.args.given.depth c.in_ok-inside.inside c.in_ok-under.under _
    c.in_ok-put_one.ensures (ap (λ (u : K.KTy). NUnpack c.args.given.depth w.types u) c.in_ok-ty.ensures)
    (c.in-Some.ensures t) waits
    c.in_ok-push-2.ensures.items c.in_ok-push.ensures.items c.in_ok-push-3.ensures.items c.in_ok-push-4.ensures.items
    c.in_ok-inside.ensures c.in_ok-under.ensures)

pub returns-in_ok-push-in-None-clause-steps : goal.returns-in_ok-push-in-None-clause-steps
returns-in_ok-push-in-None-clause-steps c =
    let w = c.args.work.now in
    next_is c.enter-in-None.result (C.Walk c.args.body c.in_ok-inside.inside) _ c.enter-in-None.ensures
    (λ waits t. let none = c.in-None.ensures t in
    open_rest t w c.put_one.new.out c.take_tail.new.stack c.push-in-None.new.self c.enter-in-None.new.frames
    c.push-3.new.self c.push-4.new.self c.push-2.new.self c.push.new.self c.args.body c.args.ty c.args.given.atom
    c.args.given.depth c.in_ok-inside.inside c.in_ok-under.under _
    c.in_ok-put_one.ensures (ap (λ (u : K.KTy). NUnpack c.args.given.depth w.types u) c.in_ok-ty.ensures) none.0 none.1
    c.in_ok-push-in-None.ensures.items waits
    c.in_ok-push-2.ensures.items c.in_ok-push.ensures.items c.in_ok-push-3.ensures.items c.in_ok-push-4.ensures.items
    c.in_ok-inside.ensures c.in_ok-under.ensures)

pub returns-in-Some-clause-inside : goal.returns-in-Some-clause-inside
returns-in-Some-clause-inside c =
    next_is c.enter.result (C.Walk c.args.body c.in_ok-inside.inside) _ c.enter.ensures
    (λ waits m low kept. (
      low,
      all_push (FrameIn m) _ _ _ waits (all_pop (FrameIn m) _ _ _ (c.in-Some.ensures (λ i. EVar 0)) kept.0).0 tt,
      all_push (PendingIn m) _ _ _ c.in_ok-push-4.ensures.items
          (all_push (PendingIn m) _ _ _ c.in_ok-push-3.ensures.items kept.1 tt) tt,
    ))

pub returns-in_ok-push-in-None-clause-inside : goal.returns-in_ok-push-in-None-clause-inside
returns-in_ok-push-in-None-clause-inside c =
    next_is c.enter-in-None.result (C.Walk c.args.body c.in_ok-inside.inside) _ c.enter-in-None.ensures
    (λ waits m low kept. (
      low,
      all_push (FrameIn m) _ _ _ waits
          (all_push (FrameIn m) _ _ _ c.in_ok-push-in-None.ensures.items
          (all_same (FrameIn m) _ _ (c.in-None.ensures (λ i. EVar 0)).0 kept.0) tt) tt,
      all_push (PendingIn m) _ _ _ c.in_ok-push-4.ensures.items
          (all_push (PendingIn m) _ _ _ c.in_ok-push-3.ensures.items kept.1 tt) tt,
    ))
