use Rattle.std.proofs.Common.{◌∷◌, ◌∙◌, ap, ap₂, codes}
use Rattle.std.proofs.lemmas.Result.{on_ok_weaker}
use Rattle.f_terms.specs.Read.{tree}
use Rattle.f_terms.specs.ReadTerm.{node_at}
use Rattle.f_terms.specs.Tm.{plain}
use Rattle.f_terms.specs.declared.node.FShape.TheVariants as shape
use Rattle.f_writer.specs.Notation.{value_text}
use Rattle.f_writer.specs.Parts.{part_term}
use Rattle.f_writer.specs.Tasks.{Todo, Put, todos}
use Rattle.f_writer.proofs.Todos.{form_is, begun_fix, begun_let, begun_open, after_three}
use Rattle.f_writer.proofs.binders.begin_binder.Goals as goal

pub returns-in_ok-write_head-in-Fix : goal.returns-in_ok-write_head-in-Fix
returns-in_ok-write_head-in-Fix c =
    let depths = c.args.depths in
    let old = todos c.args.tasks.now.items in
    let inner = c.in_ok-inner-in-Fix in
    let form = shape.Fix c.in-Fix.arg c.in-Fix.res c.in-Fix.body in
    let is = form_is c.args.part c.node.result.now form c.node.ensures.tree c.in-Fix.is in
    on_ok_weaker c.push.result
    (λ next. begun_fix depths.types depths.values c.args.text.now.items c.write_head.new.text.items old
    (todos c.push.new.tasks.items) (part_term c.args.part) inner.inner.types inner.inner.values
    (tree c.in-Fix.arg) (tree c.in-Fix.res) (plain (node_at c.args.part.term.now c.in-Fix.body)) is
    inner.ensures.types inner.ensures.values
    (next ∙ ap (λ (t : Todo). t ∷ old) c.child.ensures) c.in_ok-write_head-in-Fix.ensures)
    c.push.ensures

pub returns-in_ok-with_more-in-Let : goal.returns-in_ok-with_more-in-Let
returns-in_ok-with_more-in-Let c =
    let depths = c.args.depths in
    let old = todos c.args.tasks.now.items in
    let inner = c.in_ok-with_more-in-Let in
    let is = form_is c.args.part c.node.result.now (shape.Let c.in-Let.a c.in-Let.b) c.node.ensures.tree
    c.in-Let.is in
    on_ok_weaker c.push_two.result
    (λ next. begun_let depths.types depths.values c.args.text.now.items c.extend_from_slice-in-Let-2.new.self.items old
    (todos c.push_two.new.tasks.items) (part_term c.args.part) inner.field-0.types inner.field-0.values
    (plain (node_at c.args.part.term.now c.in-Let.a)) (plain (node_at c.args.part.term.now c.in-Let.b)) is
    inner.ensures.types inner.ensures.values
    (next ∙ ap₂ (λ (s t : Todo). s ∷ (Put (codes " in\n") ∷ (t ∷ old))) c.child-in-Let.ensures c.child-body.ensures)
    (after_three _ _ _ _ (codes "let ") (value_text depths.values) (codes " = ")
    c.in_ok-extend_from_slice-in-Let.ensures.items c.in_ok-write_value_name-in-Let.ensures
    c.in_ok-extend_from_slice-in-Let-2.ensures.items))
    c.push_two.ensures

pub returns-in_ok-with_more-in-Open : goal.returns-in_ok-with_more-in-Open
returns-in_ok-with_more-in-Open c =
    let depths = c.args.depths in
    let old = todos c.args.tasks.now.items in
    let inner = c.in_ok-with_more-in-Open in
    let is = form_is c.args.part c.node.result.now (shape.Open c.in-Open.a c.in-Open.b) c.node.ensures.tree
    c.in-Open.is in
    on_ok_weaker c.push_two-in-Open.result
    (λ next. begun_open depths.types depths.values c.args.text.now.items c.write_opening.new.text.items old
    (todos c.push_two-in-Open.new.tasks.items) (part_term c.args.part) inner.field-0.types inner.field-0.values
    (plain (node_at c.args.part.term.now c.in-Open.a)) (plain (node_at c.args.part.term.now c.in-Open.b)) is
    inner.ensures.types inner.ensures.values
    (next ∙ ap₂ (λ (s t : Todo). s ∷ (Put (codes " in\n") ∷ (t ∷ old))) c.child-in-Open.ensures
    c.child-body-in-Open.ensures)
    c.in_ok-write_opening-in-Open.ensures)
    c.push_two-in-Open.ensures
