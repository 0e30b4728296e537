use Rattle.std.proofs.Common.{ap, ◌∙◌, List}
use Rattle.a_pass.specs.declared.state.Name.{Name}
use Rattle.a_pass.specs.Scope.{scope, type_of}
use Rattle.a_terms.specs.Read.{atree}
use Rattle.a_pass.proofs.Terms.{shown_now}
use Rattle.a_pass.proofs.Stepping.{cell_stepped}
use Rattle.a_pass.proofs.nodes.cell.Goals as goal

pub returns : goal.returns
returns c =
    cell_stepped c.args.progress.now _ c.args.place c.args.run c.in_ok-values.values.items c.requires.names
    c.requires.bound _ c.in_ok-newest.newest (atree c.in_ok-ty.ty) _
    c.only_value.result c.in_ok-newest.ensures
    (λ t h. c.in_ok-ty.ensures ∙ ap (λ (xs : List Name). type_of (scope c.args.place.binders xs) c.only.result.ty)
    c.deref.ensures.value ∙ c.only.ensures.ty _ t h)
    (shown_now c.args.place.binders _ ∙ c.in_ok-whole.ensures.ty) c.in_ok-whole.ensures.emits c.only_value.ensures
    c.in_ok-values.ensures c.in_ok-declare.ensures
