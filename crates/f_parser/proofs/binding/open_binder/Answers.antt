use Rattle.std.proofs.Common.{◌∙◌, ap, sym, arith}
use Rattle.std.proofs.lemmas.Result.{err_from_is_err_and}
use Rattle.f_terms.specs.Stacked.{trees_of}
use Rattle.f_grammar.specs.Raw.{RFix, RGen}
use Rattle.f_grammar.specs.Read.{type_of}
use Rattle.f_grammar.specs.declared.raw.RawShape.TheVariants as S
use Rattle.f_parser.specs.Parts.{part_tree}
use Rattle.f_parser.specs.Binding.{todos}
use Rattle.f_grammar.proofs.Bound.{type_bound}
use Rattle.f_parser.proofs.Resolving.{stops_left, stops_right}
use Rattle.f_parser.proofs.Nodes.{inside, form_is}
use Rattle.f_parser.proofs.Tasks.{stopped, by_parts, fix, gen}
use Rattle.f_parser.proofs.binding.open_binder.Goals as goal

pub returns-in_err-arg-in-Fix : goal.returns-in_err-arg-in-Fix
returns-in_err-arg-in-Fix c =
    let p = err_from_is_err_and c.from_residual.result c.from_residual.ensures.1 in
    rw (
      p.1,
      p.2,
      form_is c.args.term c.node-node.result.now
          (S.Fix c.in-Fix.name c.in-Fix.parameter c.in-Fix.takes c.in-Fix.gives c.in-Fix.body) c.node-node.ensures.tree
          c.in-Fix.is,
    )
    (stops_left _ _ _ _ c.in_err-arg-in-Fix.ensures.right)

pub returns-in_err-res-in-Fix : goal.returns-in_err-res-in-Fix
returns-in_err-res-in-Fix c =
    let p = err_from_is_err_and c.from_residual-in_err-res-in-Fix.result c.from_residual-in_err-res-in-Fix.ensures.1 in
    let x = c.in_ok-arg-in-Fix.ensures in
    rw (
      p.1,
      p.2,
      form_is c.args.term c.node-node.result.now
          (S.Fix c.in-Fix.name c.in-Fix.parameter c.in-Fix.takes c.in-Fix.gives c.in-Fix.body) c.node-node.ensures.tree
          c.in-Fix.is,
    )
    (stops_right _ _ _ _ (type_bound x.right) (stops_left _ _ _ _ (rw x.kept at c.in_err-res-in-Fix.ensures.right)))

pub returns-in_ok-push-in-Fix-2 : goal.returns-in_ok-push-in-Fix-2
returns-in_ok-push-in-Fix-2 c =
    let old = todos c.args.state.now.tasks.items in
    let ts = trees_of c.args.state.now.stack in
    let x = c.in_ok-arg-in-Fix.ensures in
    let y = c.in_ok-res-in-Fix.ensures in
    let s = c.node-node.result.now.span in
    let e = part_tree c.child-body.result in
    rw (
      c.in_ok-push-in-Fix-2.ensures.pushed,
      c.in_ok-push-in-Fix.ensures.pushed,
      c.spelling.ensures,
      c.spelling-in-Fix.ensures,
      y.kept,
      x.kept,
    )
    (stopped c.args.text.now _ c.push_one.result _ _
    (λ u eq. by_parts c.args.text.now old (todos c.push_one.new.tasks.items) _ (part_tree c.args.term)
    (RFix s c.in-Fix.name c.in-Fix.parameter (type_of c.in-Fix.takes) (type_of c.in-Fix.gives) e)
    c.args.state.now.values c.args.state.now.types _ _ ts
    (form_is c.args.term c.node-node.result.now
    (S.Fix c.in-Fix.name c.in-Fix.parameter c.in-Fix.takes c.in-Fix.gives c.in-Fix.body) c.node-node.ensures.tree
    c.in-Fix.is
    ∙ sym (ap (λ z. RFix s c.in-Fix.name c.in-Fix.parameter (type_of c.in-Fix.takes) (type_of c.in-Fix.gives) z)
    c.child-body.ensures)) eq
    (fix c.args.text.now old c.args.state.now.values c.args.state.now.types ts s c.in-Fix.name c.in-Fix.parameter
    (type_of c.in-Fix.takes) (type_of c.in-Fix.gives) c.in_ok-arg-in-Fix.arg c.in_ok-res-in-Fix.res e x.right
    (rw x.kept at y.right)))
    c.push_one.ensures)

pub returns-in_ok-push-in-Gen : goal.returns-in_ok-push-in-Gen
returns-in_ok-push-in-Gen c =
    let old = todos c.args.state.now.tasks.items in
    let ts = trees_of c.args.state.now.stack in
    let s = c.node-node.result.now.span in
    let e = part_tree c.child-body-in-Gen.result in
    rw (c.in_ok-push-in-Gen.ensures.pushed, c.spelling-in-Gen.ensures)
    (stopped c.args.text.now _ c.push_one-in-Gen.result _ _
    (λ u eq. by_parts c.args.text.now old (todos c.push_one-in-Gen.new.tasks.items) _ (part_tree c.args.term)
    (RGen s c.in-Gen.name e) c.args.state.now.values c.args.state.now.types _ _ ts
    (form_is c.args.term c.node-node.result.now (S.Gen c.in-Gen.name c.in-Gen.body) c.node-node.ensures.tree
    c.in-Gen.is ∙ sym (ap (λ z. RGen s c.in-Gen.name z) c.child-body-in-Gen.ensures)) eq
    (gen c.args.text.now old c.args.state.now.values c.args.state.now.types ts s c.in-Gen.name e))
    c.push_one-in-Gen.ensures)

pub child-body-requires : goal.child-body-requires
child-body-requires c =
    inside c.args.term c.node-node.result.now
    (S.Fix c.in-Fix.name c.in-Fix.parameter c.in-Fix.takes c.in-Fix.gives c.in-Fix.body) c.node-node.ensures.inside
    c.in-Fix.is 0 0 (omega arith)

pub child-body-requires-in-Gen : goal.child-body-requires-in-Gen
child-body-requires-in-Gen c =
    inside c.args.term c.node-node.result.now (S.Gen c.in-Gen.name c.in-Gen.body) c.node-node.ensures.inside
    c.in-Gen.is 0 0 (omega arith)
