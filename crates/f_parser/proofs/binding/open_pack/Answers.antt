use Rattle.std.proofs.Common.{List, ◌∷◌, ◌∙◌, ap, sym, arith}
use Rattle.std.proofs.lemmas.Result.{err_from_is_err_and}
use Rattle.f_terms.specs.Stacked.{trees_of}
use Rattle.f_grammar.specs.Raw.{RPack}
use Rattle.f_grammar.specs.Read.{type_of}
use Rattle.f_grammar.specs.declared.raw.RawShape.TheVariants as S
use Rattle.f_parser.specs.Parts.{part_tree}
use Rattle.f_parser.specs.Binding.{Bind, Todo, todos}
use Rattle.f_parser.proofs.Resolving.{stops_left}
use Rattle.f_parser.proofs.Nodes.{inside, form_is}
use Rattle.f_parser.proofs.Tasks.{stopped, by_parts, pack}
use Rattle.f_parser.proofs.binding.open_pack.Goals as goal

pub returns-in_err-hidden-in-Pack : goal.returns-in_err-hidden-in-Pack
returns-in_err-hidden-in-Pack c =
    let p = err_from_is_err_and c.from_residual.result c.from_residual.ensures.1 in
    rw (
      p.1,
      p.2,
      form_is c.args.term c.node-node.result.now (S.Pack c.in-Pack.hidden c.in-Pack.inner c.in-Pack.shape)
          c.node-node.ensures.tree c.in-Pack.is,
    ) (stops_left _ _ _ _ c.in_err-hidden-in-Pack.ensures.right)

pub returns : goal.returns
returns c =
    let old = todos c.args.state.now.tasks.items in
    let ts = trees_of c.args.state.now.stack in
    let x = c.in_ok-hidden-in-Pack.ensures in
    let s = c.node-node.result.now.span in
    let e = part_tree c.child.result in
    let t = type_of c.in-Pack.hidden in
    let r = type_of c.in-Pack.shape in
    rw x.kept
    (stopped c.args.text.now _ c.push-in-Pack.result _ _
    (λ u eq. by_parts c.args.text.now old (todos c.push-in-Pack.new.tasks.items) _ (part_tree c.args.term)
    (RPack s t e r) c.args.state.now.values c.args.state.now.types _ _ ts
    (form_is c.args.term c.node-node.result.now (S.Pack c.in-Pack.hidden c.in-Pack.inner c.in-Pack.shape)
    c.node-node.ensures.tree c.in-Pack.is ∙ sym (ap (λ z. RPack s t z r) c.child.ensures))
    (eq ∙ ap (λ (tds : List Todo). Bind e ∷ tds) c.in_ok-push-in-Pack.ensures)
    (pack c.args.text.now old c.args.state.now.values c.args.state.now.types ts s t e r
    c.in_ok-hidden-in-Pack.hidden x.right))
    c.push-in-Pack.ensures)

pub child-requires : goal.child-requires
child-requires c =
    inside c.args.term c.node-node.result.now (S.Pack c.in-Pack.hidden c.in-Pack.inner c.in-Pack.shape)
    c.node-node.ensures.inside c.in-Pack.is 0 0 (omega arith)
