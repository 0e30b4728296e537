use Rattle.std.proofs.Common.{ap, ◌∙◌, List}
use Rattle.a_pass.specs.declared.state.Name.{Name}
use Rattle.a_pass.specs.Scope.{constant_of, knowns, scope, type_of}
use Rattle.a_pass.proofs.Stepping.{name_stepped}
use Rattle.a_pass.proofs.nodes.name.Goals as goal

pub declare-requires : goal.declare-requires
declare-requires c = c.in_ok-ty.ensures.1

pub returns : goal.returns
returns c =
    name_stepped c.args.progress.now _ c.args.place c.args.run c.in_ok-values.values.items c.requires.names
    c.requires.bound c.in_ok-values.ensures _ _ c.in_ok-declare.ensures
    (λ t h. c.in_ok-ty.ensures.0 ∙ ap (λ (xs : List Name). type_of (scope c.args.place.binders xs)
    c.only-kind.result.ty) c.deref.ensures.value ∙ c.only-kind.ensures.ty _ t h)
    (λ o h. c.in_ok-constant.ensures ∙ ap (λ (xs : List Name). constant_of (knowns xs) c.only-kind.result.constant)
    c.deref-2.ensures.value ∙ c.only-kind.ensures.constant _ o h)
