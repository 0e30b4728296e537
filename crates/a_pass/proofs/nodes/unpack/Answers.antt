use Rattle.std.proofs.Common.{ap, ◌∙◌, List, Some}
use Rattle.a_pass.specs.declared.state.Name.{Name}
use Rattle.a_pass.specs.Scope.{scope, type_of}
use Rattle.a_terms.specs.Typing.{body_of}
use Rattle.a_pass.proofs.Stepping.{unpack_stepped}
use Rattle.a_pass.proofs.nodes.unpack.Goals as goal

pub declare-requires : goal.declare-requires
declare-requires c = c.in_ok-ty.ensures.1

pub returns : goal.returns
returns c =
    unpack_stepped c.args.progress.now _ c.args.place c.args.run c.in_ok-values.values.items c.requires.names
    c.requires.bound c.in_ok-values.ensures _ c.in_ok-inner.inner
    c.in_ok-inner.ensures c.in_ok-declare.ensures
    (λ t h. c.in_ok-ty.ensures.0 ∙ ap (λ (xs : List Name). body_of (Some (type_of (scope c.args.place.binders xs)
    c.only.result.ty))) c.deref.ensures.value ∙ ap (λ x. body_of (Some x)) (c.only.ensures.ty _ t h))
