use Rattle.std.proofs.Common.{refl}
use Rattle.k_pass.specs.declared.work.Control.TheVariants as C
use Rattle.k_pass.proofs.Moves.{next_is, fixes}
use Rattle.k_pass.specs.Machine.{FrameIn, PendingIn}
use Rattle.k_pass.proofs.Inside.{all_push}
use Rattle.k_pass.proofs.walk.walk_fix.Goals as goal

pub returns-clause-steps : goal.returns-clause-steps
returns-clause-steps c =
    next_is c.enter.result (C.Walk c.args.body.node c.in_ok-inside.inside) _ c.enter.ensures
    (λ waits t. fixes t c.args.work.now
    (record {
      out = c.put.new.out;
      frames = c.enter.new.frames;
      pending = c.push-3.new.self;
      names = c.push-2.new.self;
      levels = c.args.work.now.levels;
      types = c.args.work.now.types;
    })
    c.args.arg c.args.res c.args.body.node c.args.body.depth c.in_ok-first.first c.in_ok-level.level
    c.in_ok-inside.inside c.push.new.self.items _
    c.in_ok-put.ensures c.in_ok-args.ensures
    waits c.in_ok-push-3.ensures.items c.in_ok-push.ensures.items c.in_ok-push-2.ensures.items refl refl
    c.in_ok-first.ensures c.in_ok-level.ensures c.in_ok-inside.ensures)

pub returns-clause-inside : goal.returns-clause-inside
returns-clause-inside c =
    next_is c.enter.result (C.Walk c.args.body.node c.in_ok-inside.inside) _ c.enter.ensures
    (λ waits m low kept. (
      low,
      all_push (FrameIn m) _ _ _ waits kept.0 tt,
      all_push (PendingIn m) _ _ _ c.in_ok-push-3.ensures.items kept.1 tt,
    ))
