use Rattle.std.proofs.Common.{◌∙◌, ap}
use Rattle.a_terms.specs.NodeTrees.{base, wrapped}
use Rattle.a_scope.proofs.Scopes.{taken}
use Rattle.t_gen_rules.specs.Gen.{constant}
use Rattle.t_emit.proofs.Emitted.{const_next_of}
use Rattle.t_emit.proofs.constants.constant_value.Goals as goal

pub loop-w-preserved : goal.loop-w-preserved
loop-w-preserved c =
    const_next_of (base c.args.v.now.base) c.args.v.now.wraps.items _ c.deref-w-items.ensures.value c.loop-w.w-index
    c.w-item.result _ _ c.loop-w-test.true c.w-item.is c.loop-w.invariant c.in_ok-made-2.ensures

pub returns : goal.returns
returns c = c.loop-w.invariant
    ∙ ap (λ xs. constant (wrapped (base c.args.v.now.base) xs))
    (taken c.args.v.now.wraps.items _ c.deref-w-items.ensures.value c.loop-w.w-index c.loop-w-test.false)
