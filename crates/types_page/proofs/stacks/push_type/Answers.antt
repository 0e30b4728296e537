use Rattle.std.proofs.Common.{◌∙◌, [], ap}
use Rattle.f_terms.specs.Read.{tree}
use Rattle.types_page.specs.Walk.{back}
use Rattle.types_page.proofs.Stacking.{back_push}
use Rattle.types_page.proofs.stacks.push_type.Goals as goal

pub returns : goal.returns
returns c = ap (back tree) c.in_ok-push.ensures.items ∙ back_push tree [] c.args.types.now.items c.args.ty
