use Rattle.std.proofs.Common.{arith}
use Rattle.a_terms.proofs.Weighed.{program_fits}
use Rattle.a_terms.proofs.sizes.keeps_bound.Goals as goal

pub returns-then-total-le4611686018427387904 : goal.returns-then-total-le4611686018427387904
returns-then-total-le4611686018427387904 c =
    program_fits _ c.args.blocks.now c.args.main.now c.args.tuples.now
    (omega (
      arith,
      c.in_ok-total.ensures,
      c.in_ok-program.ensures,
      c.in_ok-kept.ensures,
      c.in_ok-all.ensures,
      c.in_ok-term.ensures,
      c.in_ok-nodes.ensures,
      c.if-total-le4611686018427387904.true,
    ))
