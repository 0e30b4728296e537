use Rattle.std.proofs.Common.{ap, length, arith}
use Rattle.a_terms.specs.NodeTrees.{base}
use Rattle.t_gen.proofs.Telling.{both_some_wraps}
use Rattle.t_gen.proofs.ahead.both_of.Goals as goal

pub returns-then-wraps-gt0 : goal.returns-then-wraps-gt0
returns-then-wraps-gt0 c =
    λ e h. both_some_wraps (base c.args.v.now.base) c.args.v.now.wraps.items e
    (omega (arith, c.if-wraps-gt0.true, ap length c.as_slice-wraps.ensures.value))
