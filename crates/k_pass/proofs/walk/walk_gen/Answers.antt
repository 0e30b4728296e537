use Rattle.std.proofs.Common.{refl}
use Rattle.k_pass.specs.declared.work.Control.TheVariants as C
use Rattle.k_pass.proofs.Moves.{next_is, gens}
use Rattle.k_pass.specs.Machine.{FrameIn, PendingIn}
use Rattle.k_pass.proofs.Inside.{all_push}
use Rattle.k_pass.proofs.walk.walk_gen.Goals as goal

pub returns-clause-steps : goal.returns-clause-steps
returns-clause-steps c =
    next_is c.enter.result (C.Walk c.args.body.node c.in_ok-inside.inside) _ c.enter.ensures
    (λ waits t. gens t c.args.work.now
    (record {
      out = c.put.new.out;
      frames = c.enter.new.frames;
      pending = c.push-2.new.self;
      names = c.args.work.now.names;
      levels = c.push.new.self;
      types = c.in_ok-under.under;
    })
    c.args.ty c.args.body.node c.args.body.depth c.in_ok-level.level c.in_ok-inside.inside c.in_ok-under.under _
    c.in_ok-put.ensures c.in_ok-args.ensures
    waits c.in_ok-push-2.ensures.items refl
    c.in_ok-push.ensures.items refl c.in_ok-under.ensures c.in_ok-level.ensures c.in_ok-inside.ensures)

pub returns-clause-inside : goal.returns-clause-inside
returns-clause-inside c =
    next_is c.enter.result (C.Walk c.args.body.node c.in_ok-inside.inside) _ c.enter.ensures
    (λ waits m low kept. (
      low,
      all_push (FrameIn m) _ _ _ waits kept.0 tt,
      all_push (PendingIn m) _ _ _ c.in_ok-push-2.ensures.items kept.1 tt,
    ))
