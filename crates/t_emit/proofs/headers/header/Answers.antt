use Rattle.std.proofs.Common.{◌≡◌, ◌-◌, ◌∙◌, ap, length, drop, arith}
use Rattle.a_scope.specs.Scope.{homes, scope}
use Rattle.t_types.specs.Read.{file}
use Rattle.t_emit.specs.Code.{chosen}
use Rattle.t_emit.proofs.Chosen.{chosen_next, chosen_none}
use Rattle.t_emit.proofs.headers.header.Goals as goal

pub loop-left-init : goal.loop-left-init
loop-left-init c =
    record {
      few = omega arith;
      made = ap file c.new-map.ensures.empty
          ∙ chosen_none c.args.third.now (length c.args.third.now) (homes c.args.vars.now)
          (scope c.args.names c.args.vars.now) (omega arith);
    }

pub loop-left-preserved : goal.loop-left-preserved
loop-left-preserved c =
    let left = c.loop-left.left in
    let es = c.args.vars.now in record {
      few = omega (arith, c.loop-left.invariant.few, c.loop-left-test.true);
      made = chosen_next c.args.third.now (left - 1) left 0 (homes es) (scope c.args.names es) _ _
          (omega (arith, c.loop-left-test.true)) (omega (arith, c.loop-left-test.true, c.loop-left.invariant.few))
          c.in_ok-put_variable.ensures c.loop-left.invariant.made;
    }

pub returns : goal.returns
returns c =
    let none : c.loop-left.left ≡ 0 = omega (arith, c.loop-left-test.false) in
    ap file c.in_ok-regs.ensures ∙ c.loop-left.invariant.made
    ∙ ap (λ q. chosen (drop q c.args.third.now) (homes c.args.vars.now) (scope c.args.names c.args.vars.now)) none
