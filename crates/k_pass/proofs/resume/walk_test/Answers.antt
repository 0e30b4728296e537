use Rattle.k_pass.specs.Machine.{FrameIn}
use Rattle.k_pass.specs.declared.work.Control.TheVariants as C
use Rattle.k_pass.proofs.Inside.{all_push}
use Rattle.k_pass.proofs.Moves.{next_is, comes_test}
use Rattle.k_pass.proofs.resume.walk_test.Goals as goal

pub returns-clause-steps : goal.returns-clause-steps
returns-clause-steps c =
    next_is c.enter.result (C.Walk c.args.choice.test c.in_ok-inside.inside) _ c.enter.ensures
    (λ waits t. comes_test t c.args.work.now c.put_name.new.out c.enter.new.frames c.args.choice.test
    c.args.choice.zero c.args.choice.other c.args.place.depth c.args.place.types c.in_ok-inside.inside c.args.ty _
    c.in_ok-put_name.ensures c.in_ok-ty.ensures waits c.in_ok-inside.ensures)

pub returns-clause-inside : goal.returns-clause-inside
returns-clause-inside c =
    next_is c.enter.result (C.Walk c.args.choice.test c.in_ok-inside.inside) _ c.enter.ensures
    (λ waits m here kept. (here.0, all_push (FrameIn m) _ _ _ waits kept.0 (here.1, here.2), kept.1))
