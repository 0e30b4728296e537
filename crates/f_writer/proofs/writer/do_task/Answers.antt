use Rattle.std.proofs.Common.{ap}
use Rattle.std.proofs.lemmas.Result.{on_ok_weaker}
use Rattle.f_terms.specs.Read.{tree}
use Rattle.f_writer.specs.Tasks.{todo, todos}
use Rattle.f_writer.proofs.Todos.{wrote_type_task}
use Rattle.f_writer.proofs.writer.do_task.Goals as goal

pub returns-in-Type : goal.returns-in-Type
returns-in-Type c =
    on_ok_weaker c.write_type.result
    (λ q. wrote_type_task c.args.text.now.items c.write_type.new.text.items (todos c.args.tasks.now.items) c.args.task
    c.in-Type.depth (tree c.in-Type.ty.now) (ap todo c.in-Type.is) q)
    c.write_type.ensures
