use Rattle.std.proofs.Common.{◌∙◌, ◌++◌, ◌∷◌, [], ap, List}
use Rattle.c_rules.specs.Know as W
use Rattle.c_pass.specs.declared.state.Bound.{Bound}
use Rattle.c_pass.specs.Read.{bound, bounds}
use Rattle.c_pass.proofs.Bounding.{bounds_take, bounds_push}
use Rattle.c_pass.proofs.bounds.bind.Goals as goal

pub returns : goal.returns
returns c =
    let x : Bound = record { ty = c.args.ty; depth = c.args.depth } in
    ap (λ (xs : List Bound). bounds xs) c.in_ok-push.ensures.items ∙ bounds_push _ x
    ∙ ap (λ (xs : List W.Bound). xs ++ bound x ∷ [])
    (ap (λ (xs : List Bound). bounds xs) c.truncate.ensures.items ∙ bounds_take c.args.level c.args.xs.now.items)
