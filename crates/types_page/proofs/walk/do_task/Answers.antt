use Rattle.std.proofs.Common.{ap, arith}
use Rattle.std.proofs.lemmas.Result.{on_ok_weaker}
use Rattle.types_page.specs.Walk.{Add, Bind, Join, now, part_tree, part_trees, todo, todos}
use Rattle.types_page.proofs.Stepping.{next_done, once_done, visit_done}
use Rattle.types_page.proofs.walk.do_task.Goals as goal

pub returns-in-Visit : goal.returns-in-Visit
returns-in-Visit c =
    on_ok_weaker c.visit.result
    (λ q. visit_done (todo c.args.task) (part_tree c.in-Visit.part) (todos c.args.tasks.now.items)
    (todos c.visit.new.tasks.items) (now c.args.state.now) (now c.visit.new.state) (ap todo c.in-Visit.is)
    c.requires.scope c.requires.ready q)
    c.visit.ensures

pub returns-in-Fields : goal.returns-in-Fields
returns-in-Fields c =
    on_ok_weaker c.next_field.result
    (λ q. next_done (todo c.args.task) (part_trees c.in-Fields.fields) (todos c.args.tasks.now.items)
    (todos c.next_field.new.tasks.items) (now c.args.state.now) (ap todo c.in-Fields.is) c.requires.scope
    c.requires.ready q)
    c.next_field.ensures

pub returns-in-Add : goal.returns-in-Add
returns-in-Add c =
    on_ok_weaker c.add.result
    (λ q. once_done (todo c.args.task) Add (todos c.args.tasks.now.items) (now c.args.state.now)
    (now c.add.new.state) (ap todo c.in-Add.is) (omega arith) c.requires.ready q)
    c.add.ensures

pub returns-in-Bind : goal.returns-in-Bind
returns-in-Bind c =
    on_ok_weaker c.bind.result
    (λ q. once_done (todo c.args.task) (Bind (part_tree c.in-Bind.part) c.in-Bind.number)
    (todos c.args.tasks.now.items) (now c.args.state.now) (now c.bind.new.state) (ap todo c.in-Bind.is)
    (omega arith) c.requires.ready q)
    c.bind.ensures

pub returns-in-Join : goal.returns-in-Join
returns-in-Join c =
    on_ok_weaker c.join.result
    (λ q. once_done (todo c.args.task) (Join (part_tree c.in-Join.part)) (todos c.args.tasks.now.items)
    (now c.args.state.now) (now c.join.new.state) (ap todo c.in-Join.is) (omega arith) c.requires.ready q)
    c.join.ensures
