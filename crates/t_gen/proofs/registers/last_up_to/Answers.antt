use Rattle.t_gen.proofs.Gapped.{last_one}
use Rattle.t_gen.proofs.registers.last_up_to.Goals as goal

pub returns-clause-some : goal.returns-clause-some
returns-clause-some c =
    last_one c.args.gaps.now c.args.r c.in_ok-first.first.now c.in_ok-first.end.now _ _ (c.range.ensures.in_range tt)
    c.in_ok-first.ensures.steps
