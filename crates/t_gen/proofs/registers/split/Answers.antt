use Rattle.t_gen.proofs.Gapped.{gaps_split}
use Rattle.t_gen.proofs.registers.split.Goals as goal

pub returns : goal.returns
returns c = λ h at le k. gaps_split c.args.gaps.now c.remove.new.self c.put_gap.new.gaps c.put_gap-2.new.gaps
    c.args.first c.args.end c.args.r h c.remove.ensures.updates.0 c.in_ok-put_gap.ensures c.in_ok-put_gap-2.ensures
    c.requires at le k
