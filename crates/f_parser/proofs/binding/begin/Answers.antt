use Rattle.std.proofs.Common.{◌∙◌, rules, refl}
use Rattle.f_terms.specs.Tm.{SVar, SNum}
use Rattle.f_terms.specs.Read.{place}
use Rattle.f_terms.specs.Stacked.{trees_of}
use Rattle.f_terms.specs.declared.stack.FStep.TheVariants as form
use Rattle.f_grammar.specs.declared.raw.RawShape.TheVariants as S
use Rattle.f_parser.specs.Parts.{part_tree}
use Rattle.f_parser.proofs.Nodes.{form_is}
use Rattle.f_grammar.specs.Scope.{of_var}
use Rattle.f_parser.specs.Binding.{todos}
use Rattle.f_parser.proofs.Resolving.{name_stop, number_bound}
use Rattle.f_parser.proofs.Tasks.{stopped, leaf, stacked_leaf}
use Rattle.f_parser.proofs.binding.begin.Goals as goal

pub returns-in-Some : goal.returns-in-Some
returns-in-Some c =
    let s = place c.node-node.result.now.span in
    let ts = trees_of c.args.state.now.stack in
    stopped c.args.text.now _ c.put.result _ _
    (λ u h. leaf c.args.text.now (todos c.args.state.now.tasks.items) c.args.state.now.values c.args.state.now.types ts
    (part_tree c.args.term) (SVar s c.in-Some.place)
    (rw (form_is c.args.term c.node-node.result.now S.Var c.node-node.ensures.tree c.in-Var.is)
    (of_var c.node-node.result.now.span c.in-Some.place (rw c.spelling.ensures at c.in-Some.ensures)))
    (trees_of c.put.new.stack) (h ∙ stacked_leaf s (form.Var c.in-Some.place) ts refl))
    c.put.ensures

pub returns-in-None : goal.returns-in-None
returns-in-None c =
    name_stop c.args.text.now c.args.state.now.values c.args.state.now.types (part_tree c.args.term)
    c.node-node.result.now.span
    (form_is c.args.term c.node-node.result.now S.Var c.node-node.ensures.tree c.in-Var.is)
    (rw c.spelling.ensures at c.in-None.ensures)

pub returns-in-Num : goal.returns-in-Num
returns-in-Num c =
    let s = place c.node-node.result.now.span in
    let ts = trees_of c.args.state.now.stack in
    stopped c.args.text.now _ c.put-in-Num.result _ _
    (λ u h. leaf c.args.text.now (todos c.args.state.now.tasks.items) c.args.state.now.values c.args.state.now.types ts
    (part_tree c.args.term) (SNum s _)
    (number_bound c.args.text.now c.args.state.now.values c.args.state.now.types
    (part_tree c.args.term) c.node-node.result.now.span c.in-Num.value _
    (form_is c.args.term c.node-node.result.now (S.Num c.in-Num.value) c.node-node.ensures.tree c.in-Num.is)
    (search rules)) (trees_of c.put-in-Num.new.stack) (h ∙ stacked_leaf s (form.Int _) ts refl))
    c.put-in-Num.ensures
