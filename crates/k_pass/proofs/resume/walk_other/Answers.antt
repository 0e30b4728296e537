use Rattle.k_pass.specs.Machine.{FrameIn}
use Rattle.k_pass.specs.declared.work.Control.TheVariants as C
use Rattle.k_pass.proofs.Inside.{all_push}
use Rattle.k_pass.proofs.Moves.{next_is, comes_term}
use Rattle.k_pass.proofs.resume.walk_other.Goals as goal

pub returns-clause-steps : goal.returns-clause-steps
returns-clause-steps c =
    next_is c.enter.result (C.Walk c.args.node c.args.place.depth) _ c.enter.ensures
    (λ waits t. comes_term t c.args.work.now c.put.new.out c.enter.new.frames c.args.node c.args.place.depth
    c.args.place.types c.args.level c.in_ok-put.ensures waits)

pub returns-clause-inside : goal.returns-clause-inside
returns-clause-inside c =
    next_is c.enter.result (C.Walk c.args.node c.args.place.depth) _ c.enter.ensures
    (λ waits m low kept. (low, all_push (FrameIn m) _ _ _ waits kept.0 tt, kept.1))
