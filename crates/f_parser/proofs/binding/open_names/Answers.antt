use Rattle.std.proofs.Common.{◌∙◌, List, ◌∷◌, ap, ap₂, sym, arith}
use Rattle.f_grammar.specs.Raw.{RLet, ROpen}
use Rattle.f_grammar.specs.declared.raw.RawShape.TheVariants as S
use Rattle.f_parser.specs.Parts.{part_tree}
use Rattle.f_parser.specs.Binding.{Bind, NameIt, NameBoth, Todo, todos}
use Rattle.f_parser.proofs.Tasks.{opened, by_parts, let_form, open_form}
use Rattle.f_parser.proofs.Nodes.{inside, form_is}
use Rattle.f_parser.proofs.binding.open_names.Goals as goal

pub returns-in_ok-push-in-Let : goal.returns-in_ok-push-in-Let
returns-in_ok-push-in-Let c =
    let old = todos c.args.tasks.now.items in
    let n = c.node-node.result.now in
    let s = n.span in
    let x = c.in-Let.name in
    let d = part_tree c.child-in-Let.result in
    let e = part_tree c.child.result in
    let form = S.Let x c.in-Let.a c.in-Let.b in
    let parts = ap₂ (λ y z. RLet s x y z) c.child-in-Let.ensures c.child.ensures in
    let is = form_is c.args.term n form c.node-node.ensures.tree c.in-Let.is ∙ sym parts in
    let before = c.in_ok-push-in-Let.ensures
    ∙ ap (λ (tds : List Todo). NameIt x ∷ tds) c.in_ok-push_one-in-Let.ensures in
    opened c.push-in-Let.result _ _
    (λ eq text v a ts. by_parts text old (todos c.push-in-Let.new.tasks.items) _ (part_tree c.args.term) (RLet s x d e)
    v a v a ts is (eq ∙ ap (λ (tds : List Todo). Bind d ∷ tds) before) (let_form text old v a ts s x d e))
    c.push-in-Let.ensures

pub returns-in_ok-push-in-Open : goal.returns-in_ok-push-in-Open
returns-in_ok-push-in-Open c =
    let old = todos c.args.tasks.now.items in
    let node = c.node-node.result.now in
    let s = node.span in
    let n = c.in-Open.ty in
    let x = c.in-Open.name in
    let d = part_tree c.child-in-Open-2.result in
    let e = part_tree c.child-in-Open.result in
    let form = S.Open n x c.in-Open.a c.in-Open.b in
    let parts = ap₂ (λ y z. ROpen s n x y z) c.child-in-Open-2.ensures c.child-in-Open.ensures in
    let is = form_is c.args.term node form c.node-node.ensures.tree c.in-Open.is ∙ sym parts in
    let before = c.in_ok-push-in-Open.ensures
    ∙ ap (λ (tds : List Todo). NameBoth n x ∷ tds) c.in_ok-push_one-in-Open.ensures in
    opened c.push-in-Open-2.result _ _
    (λ eq text v a ts. by_parts text old (todos c.push-in-Open-2.new.tasks.items) _ (part_tree c.args.term)
    (ROpen s n x d e) v a v a ts is (eq ∙ ap (λ (tds : List Todo). Bind d ∷ tds) before)
    (open_form text old v a ts s n x d e))
    c.push-in-Open-2.ensures

pub child-requires : goal.child-requires
child-requires c =
    let form = S.Let c.in-Let.name c.in-Let.a c.in-Let.b in
    inside c.args.term c.node-node.result.now form c.node-node.ensures.inside c.in-Let.is 1 0 (omega arith)

pub child-requires-in-Let : goal.child-requires-in-Let
child-requires-in-Let c =
    let form = S.Let c.in-Let.name c.in-Let.a c.in-Let.b in
    inside c.args.term c.node-node.result.now form c.node-node.ensures.inside c.in-Let.is 0 0 (omega arith)

pub child-requires-in-Open : goal.child-requires-in-Open
child-requires-in-Open c =
    let form = S.Open c.in-Open.ty c.in-Open.name c.in-Open.a c.in-Open.b in
    inside c.args.term c.node-node.result.now form c.node-node.ensures.inside c.in-Open.is 1 0 (omega arith)

pub child-requires-in-Open-2 : goal.child-requires-in-Open-2
child-requires-in-Open-2 c =
    let form = S.Open c.in-Open.ty c.in-Open.name c.in-Open.a c.in-Open.b in
    inside c.args.term c.node-node.result.now form c.node-node.ensures.inside c.in-Open.is 0 0 (omega arith)
