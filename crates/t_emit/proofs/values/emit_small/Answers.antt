use Rattle.std.proofs.Common.{◌∙◌, ap}
use Rattle.t_emit.specs.Code.{onto, places}
use Rattle.t_gen_rules.specs.Gen.{small, unnest}
use Rattle.a_terms.specs.NodeTrees.{base, wrapped}
use Rattle.a_scope.proofs.Scopes.{taken}
use Rattle.t_emit.proofs.Emitted.{small_next, unnest_next}
use Rattle.t_emit.proofs.values.emit_small.Goals as goal

pub loop-w-preserved : goal.loop-w-preserved
loop-w-preserved c =
    let t = c.args.emitter.now.spare in
    let m = places c.args.emitter.now.vars.now c.args.saved.now in
    let b = base c.args.v.now.base in
    let ws = c.args.v.now.wraps.items in record {
      made = small_next t m b ws _ c.deref-w-items.ensures.value c.loop-w.w-index c.w-item.result _ _
          c.loop-w-test.true c.w-item.is c.loop-w.invariant.made c.in_ok-made-2.ensures.value;
      code = λ rest.
          (c.in_ok-made-2.ensures.code rest ∙ c.loop-w.invariant.code _
          ∙ ap (onto c.args.code.now.items)
          (unnest_next t m b ws _ c.deref-w-items.ensures.value c.loop-w.w-index c.w-item.result _ rest
          c.loop-w-test.true c.w-item.is c.loop-w.invariant.made));
    }

pub returns-clause-value : goal.returns-clause-value
returns-clause-value c =
    let m = places c.args.emitter.now.vars.now c.args.saved.now in
    c.loop-w.invariant.made
    ∙ ap (λ xs. small c.args.emitter.now.spare m (wrapped (base c.args.v.now.base) xs))
    (taken c.args.v.now.wraps.items _ c.deref-w-items.ensures.value c.loop-w.w-index c.loop-w-test.false)

pub returns-clause-code : goal.returns-clause-code
returns-clause-code c = λ rest.
    let m = places c.args.emitter.now.vars.now c.args.saved.now in
    c.loop-w.invariant.code rest
    ∙ ap (λ xs. onto c.args.code.now.items
    (unnest c.args.emitter.now.spare m (wrapped (base c.args.v.now.base) xs) rest))
    (taken c.args.v.now.wraps.items _ c.deref-w-items.ensures.value c.loop-w.w-index c.loop-w-test.false)
