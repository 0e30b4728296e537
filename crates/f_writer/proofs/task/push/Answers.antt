use Rattle.std.proofs.Common.{◌∙◌, [], ap}
use Rattle.f_writer.specs.Tasks.{todos}
use Rattle.f_writer.proofs.Todos.{todos_push}
use Rattle.f_writer.proofs.task.push.Goals as goal

pub returns : goal.returns
returns c = ap todos c.in_ok-push.ensures.items ∙ todos_push [] c.args.tasks.now.items c.args.task
