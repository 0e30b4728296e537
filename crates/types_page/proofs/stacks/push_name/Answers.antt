use Rattle.std.proofs.Common.{◌∙◌, [], ap}
use Rattle.types_page.specs.Walk.{back, named}
use Rattle.types_page.proofs.Stacking.{back_push}
use Rattle.types_page.proofs.stacks.push_name.Goals as goal

pub returns : goal.returns
returns c =
    ap (back named) c.in_ok-push.ensures.items
    ∙ back_push named [] c.args.scope.now.items (record { ty = c.args.ty; around = c.args.around })
