use Rattle.std.proofs.Common.{sym, refl, rules, ◌∙◌, ap}
use Rattle.a_pass.specs.Scope.{all_constants, knowns, scope}
use Rattle.a_pass.proofs.Steps.{constant_reads, reads_deep, tuple_reads}
use Rattle.a_pass.proofs.parts.tuple.Goals as goal

pub returns-then-all_constants : goal.returns-then-all_constants
returns-then-all_constants c = λ ks.
    let g = scope c.args.around.now.binders c.args.around.now.names.now in
    let ls = knowns c.args.around.now.names.now in
    reads_deep ks g ls _ _ _ _ _ _ _ _ _ _ _ _ (sym c.in_ok-made.ensures.depth)
    (constant_reads ks g ls c.args.n c.saturating_sub-start.result c.args.run.values.items _ _ c.args.run.types.items _
    c.in_ok-seen.seen.items _ c.args.run.depth _ _ _ c.in_ok-leaf.leaf.value c.in_ok-leaf.leaf.seen
    (search rules) c.in_ok-fields.ensures.items c.in_ok-seen.ensures.items c.in_ok-seen.ensures.tail
    (ap (all_constants ls) (sym c.deref.ensures.value) ∙ sym c.if-all_constants.ensures) c.in_ok-leaf.ensures.keeps
    c.in_ok-leaf.ensures.value
    (c.in_ok-leaf.ensures.constant ls) (c.in_ok-leaf.ensures.ty g) c.in_ok-made.ensures.values
    c.in_ok-made.ensures.types)

pub returns : goal.returns
returns c = λ ks.
    let g = scope c.args.around.now.binders c.args.around.now.names.now in
    let ls = knowns c.args.around.now.names.now in
    tuple_reads ks g ls c.args.n c.saturating_sub-start.result c.args.run.values.items _ c.in_ok-fields.fields.items _
    c.args.run.types.items _ c.in_ok-seen.seen.items _ c.args.run.depth _ _ _ c.in_ok-built.built.0.value
    c.in_ok-built.built.0.seen c.in_ok-built.built.1 c.in_ok-made-2.made.depth
    (search rules) c.in_ok-fields.ensures.items c.in_ok-fields.ensures.tail c.in_ok-seen.ensures.items
    c.in_ok-seen.ensures.tail (ap (all_constants ls) (sym c.deref.ensures.value) ∙ sym c.if-all_constants.ensures)
    (c.in_ok-built.ensures.emits _ refl) c.in_ok-built.ensures.level c.in_ok-built.ensures.value
    (c.in_ok-built.ensures.constant ls) (c.in_ok-built.ensures.ty g) c.in_ok-made-2.ensures.values
    c.in_ok-made-2.ensures.types (c.in_ok-made-2.ensures.depth ∙ c.in_ok-run.ensures)
