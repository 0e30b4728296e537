use Rattle.std.proofs.Common.{◌≡◌, ◌∙◌, ap₂, arith, []}
use Rattle.h_terms.specs.Nodes.{h_blocks, reads, values}
use Rattle.let_types.specs.Hoisted.{decl_of, decl_type, types_behind}
use Rattle.let_types.specs.Names.{scope}
use Rattle.let_types.specs.declared.named.Named.{Named}
use Rattle.let_types.proofs.OneMore.{declared_is, shown_own}
use Rattle.let_types.proofs.declaring.declare.Goals as goal

pub returns-clause-scope : goal.returns-clause-scope
returns-clause-scope c =
    let f = c.args.node.now.form in
    let x = decl_of f (values c.args.node.now) in
    let k = c.args.types in
    let ks = h_blocks c.args.blocks.now in
    let e : Named = record { ty = c.in_ok-ty.ty; types = c.in_ok-after.after } in
    let many : c.in_ok-after.after ≡ types_behind k x = c.in_ok-after.ensures (values c.args.node.now) in
    declared_is ks x k c.args.names.now.items _ e c.in_ok-push.ensures.items c.requires.under
    (shown_own (types_behind k x) e many ∙ c.in_ok-ty.ensures
    ∙ ap₂ (λ us ps. decl_type ks (scope k us) (decl_of f (reads [] ps))) c.deref.ensures.value c.deref-2.ensures.value)

pub returns-clause-more : goal.returns-clause-more
returns-clause-more c =
    let many = c.in_ok-after.ensures (values c.args.node.now) in
    (record { ty = c.in_ok-ty.ty; types = c.in_ok-after.after }, omega (arith, many), c.in_ok-push.ensures.items)
