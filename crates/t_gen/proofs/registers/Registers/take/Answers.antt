use Rattle.std.proofs.Common.{◌∙◌, ap, sym, arith}
use Rattle.std.specs.Prelude.{◌==◌, ◌||◌}
use Rattle.t_gen.proofs.Gapped.{gaps_same, busy_more, same_more}
use Rattle.t_gen.proofs.registers.Registers.take.Goals as goal

pub returns-in-None : goal.returns-in-None
returns-in-None c = λ h k. record {
  busy = busy_more c.args.self.now.busy c.insert.new.self h c.args.r c.in_ok-insert.ensures.updates.0 k.busy;
  gaps = gaps_same c.args.self.now.gaps h (λ q. (c.args.r == q) || h q) k.gaps
      (λ q le lt. same_more h c.args.r q
      (λ e. ap h (sym e) ∙ c.in-None.ensures.none h k.gaps (omega (arith, e, le)) (omega (arith, e, lt))));
}
