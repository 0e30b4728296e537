use Rattle.std.proofs.Common.{[], map, ap, ◌∙◌, arith}
use Rattle.h_terms.specs.Nodes.{reads, values}
use Rattle.h_notation.specs.Notation.{value_text}
use Rattle.h_notation.specs.Values.{texts_of}
use Rattle.h_notation.proofs.FormTexts.{node_done, texts_count}
use Rattle.h_notation.proofs.ScopeTexts.{least_there}
use Rattle.h_notation.proofs.terms.write_node.Goals as goal

pub write_form-requires : goal.write_form-requires
write_form-requires c =
    let text = value_text c.args.scope.now.types c.args.scope.now.names in
    let same = ap texts_of c.deref-2.ensures.value ∙ c.in_ok-texts.ensures
    ∙ ap (λ ps. map text (reads [] ps)) c.deref.ensures.value in
    let many = texts_count c.deref-2.result.now text (values c.args.node.now) same in
    let least = least_there c.args.node.now.form (values c.args.node.now) c.requires in omega (arith, many, least)

pub returns : goal.returns
returns c =
    let text = value_text c.args.scope.now.types c.args.scope.now.names in
    let same = ap texts_of c.deref-2.ensures.value ∙ c.in_ok-texts.ensures
    ∙ ap (λ ps. map text (reads [] ps)) c.deref.ensures.value in
    let least = least_there c.args.node.now.form (values c.args.node.now) c.requires in
    node_done c.args.scope.now c.args.note.now c.args.node.now.form (values c.args.node.now)
    (texts_of c.deref-2.result.now) _ _ _ _ _ least same c.in_ok-write_opening.ensures
    c.in_ok-write_margin.ensures c.in_ok-write_form.ensures c.in_ok-extend_from_slice.ensures.items
