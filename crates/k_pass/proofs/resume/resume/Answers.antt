use Rattle.k_pass.specs.Machine.{PendingIn}
use Rattle.k_pass.proofs.Moves.{resumed}
use Rattle.k_pass.proofs.Inside.{all_pop}
use Rattle.k_pass.proofs.resume.resume.Goals as goal

pub returns-in_ok-next-in-Some-clause-steps : goal.returns-in_ok-next-in-Some-clause-steps
returns-in_ok-next-in-Some-clause-steps c = λ t.
    resumed t c.args.work.now c.pop.new.self c.in-Some.pending c.follow.new.work c.in_ok-next-in-Some.next
    c.in-Some.ensures.items (c.in_ok-next-in-Some.ensures.steps t)

pub returns-in_ok-next-in-Some-clause-inside : goal.returns-in_ok-next-in-Some-clause-inside
returns-in_ok-next-in-Some-clause-inside c = λ m kept.
    let r = all_pop (PendingIn m) _ _ _ c.in-Some.ensures.items kept.1 in
    c.in_ok-next-in-Some.ensures.inside m r.1 (kept.0, r.0)
