use Rattle.std.proofs.Common.{◌∙◌, [], ap}
use Rattle.f_parser.specs.Binding.{todos}
use Rattle.f_parser.proofs.Tasks.{todos_push}
use Rattle.f_parser.proofs.binding.push.Goals as goal

pub returns : goal.returns
returns c = ap todos c.in_ok-push.ensures.items ∙ todos_push [] c.args.tasks.now.items c.args.task
