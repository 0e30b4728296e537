use Rattle.std.proofs.Common.{◌≡◌, ◌-◌, drop, arith, subst}
use Rattle.t_types.specs.Read.{tree, file}
use Rattle.t_spill.specs.Known.{Knows}
use Rattle.t_spill.proofs.Knowing.{knows_front}
use Rattle.t_spill.proofs.known.Known.of.Goals as goal

pub loop-left-preserved : goal.loop-left-preserved
loop-left-preserved c =
    let some = c.loop-left-test.true in
    let le = c.loop-left.invariant.within in
    record {
      within = omega arith;
      knows = λ n.
          knows_front n c.set.new.self c.args.regs.now
          (c.loop-left.left - 1) c.loop-left.left c.index-regs-left.result (tree c.in_ok-ty.ty) (omega
          (arith, some, le)) (omega (arith, some)) c.index-regs-left.is c.in_ok-ty.ensures
          (c.in_ok-set.ensures n (file (drop c.loop-left.left c.args.regs.now)) (c.loop-left.invariant.knows n));
    }

pub returns : goal.returns
returns c = λ n.
    let zero : c.loop-left.left ≡ 0 = omega (arith, c.loop-left-test.false) in
    subst (λ i. Knows n c.loop-left.known (file (drop i c.args.regs.now))) zero (c.loop-left.invariant.knows n)
