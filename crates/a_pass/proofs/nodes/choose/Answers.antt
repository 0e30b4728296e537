use Rattle.std.proofs.Common.{ap, ◌∙◌, refl, List, [], ◌∷◌, ◌++◌}
use Rattle.a_pass.specs.declared.state.Place.{Place}
use Rattle.a_pass.proofs.Stepping.{branch_stepped}
use Rattle.a_pass.proofs.nodes.choose.Goals as goal

pub returns : goal.returns
returns c =
    let p : Place = record { depth = c.args.run.depth; names = c.args.place.names; binders = c.args.place.binders } in
    branch_stepped c.args.progress.now _ c.args.place c.args.run c.in_ok-values.values.items c.requires.names
    c.requires.bound c.in_ok-values.ensures p refl
    (c.in_ok-push-2.ensures.items ∙ ap (λ (ps : List Place). ps ++ p ∷ []) c.in_ok-push.ensures.items) refl refl refl
    c.in_ok-end.ensures
