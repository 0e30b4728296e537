use Rattle.std.proofs.Common.{◌<◌, List, length, get_or, sym, ap, ◌∙◌, arith}
use Rattle.std.proofs.lemmas.List.{get_or_default}
use Rattle.f_terms.specs.Cells.{is_of_cells}
use Rattle.f_terms.specs.ReadTerm.{count, no_node}
use Rattle.f_terms.specs.declared.node.FNode.{FNode}
use Rattle.f_terms.proofs.Celled.{no_cells, with_cells}
use Rattle.f_terms.proofs.cells.has_cells.Goals as goal

pub returns-then-is_of_cells : goal.returns-then-is_of_cells
returns-then-is_of_cells c =
    let f = c.args.term.now in
    let same = c.deref-node-items.ensures.value in
    let i = c.loop-node.node-index in
    let n = c.node-item.result in
    let lt : i < count f = omega (arith, c.loop-node-test.true, ap length same) in
    sym (with_cells f i lt
    (ap (λ (m : FNode). is_of_cells m.shape)
    (get_or_default f.nodes.items i no_node n lt ∙ ap (λ (ys : List FNode). get_or ys i n) (sym same)
    ∙ sym c.node-item.is)
    ∙ sym c.if-is_of_cells.ensures))

pub returns : goal.returns
returns c =
    let f = c.args.term.now in
    let same = c.deref-node-items.ensures.value in
    sym (no_cells f (λ k lt. ap (λ (ys : List FNode). is_of_cells (get_or ys k no_node).shape) (sym same)
    ∙ c.loop-node.invariant k (omega (arith, lt, c.loop-node-test.false, ap length same))))
