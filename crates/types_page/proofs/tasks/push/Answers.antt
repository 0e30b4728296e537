use Rattle.std.proofs.Common.{◌∙◌, [], ap}
use Rattle.types_page.specs.Walk.{todo, todos}
use Rattle.types_page.proofs.Stacking.{back_push}
use Rattle.types_page.proofs.tasks.push.Goals as goal

pub returns : goal.returns
returns c = ap todos c.in_ok-push.ensures.items ∙ back_push todo [] c.args.tasks.now.items c.args.task
