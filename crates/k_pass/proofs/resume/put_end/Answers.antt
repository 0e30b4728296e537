use Rattle.k_pass.proofs.Moves.{comes_end}
use Rattle.k_pass.proofs.resume.put_end.Goals as goal

pub returns-clause-steps : goal.returns-clause-steps
returns-clause-steps c = λ t.
    comes_end t c.args.work.now c.put.new.out c.in_ok-put.ensures

pub returns-clause-inside : goal.returns-clause-inside
returns-clause-inside c = λ m here kept. (tt, kept.0, kept.1)
