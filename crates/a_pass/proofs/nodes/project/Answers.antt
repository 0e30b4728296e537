use Rattle.std.proofs.Common.{ap, ◌∙◌, List, Some}
use Rattle.a_pass.specs.declared.state.Name.{Name}
use Rattle.a_pass.specs.Scope.{scope, type_of}
use Rattle.a_terms.specs.Typing.{field_of}
use Rattle.a_pass.proofs.Stepping.{proj_stepped, get_stepped}
use Rattle.a_pass.proofs.nodes.project.Goals as goal

pub declare-requires : goal.declare-requires
declare-requires c = c.in_ok-ty.ensures.1

pub returns-clause-field : goal.returns-clause-field
returns-clause-field c =
    proj_stepped c.args.progress.now _ c.args.place c.args.run c.in_ok-values.values.items c.requires.names
    c.requires.bound c.in_ok-values.ensures c.args.i _ c.in_ok-declare.ensures
    (λ t h. c.in_ok-ty.ensures.0 ∙ ap (λ (xs : List Name). field_of c.args.i (Some (type_of (scope
    c.args.place.binders xs) c.only.result.ty))) c.deref.ensures.value ∙
    ap (λ x. field_of c.args.i (Some x)) (c.only.ensures.ty _ t h))

pub returns-clause-cell : goal.returns-clause-cell
returns-clause-cell c = λ one.
    get_stepped c.args.progress.now _ c.args.place c.args.run c.in_ok-values.values.items c.requires.names
    c.requires.bound c.in_ok-values.ensures c.args.i _ one
    c.in_ok-declare.ensures
    (λ t h. c.in_ok-ty.ensures.0 ∙ ap (λ (xs : List Name). field_of c.args.i (Some (type_of (scope
    c.args.place.binders xs) c.only.result.ty))) c.deref.ensures.value ∙
    ap (λ x. field_of c.args.i (Some x)) (c.only.ensures.ty _ t h))
