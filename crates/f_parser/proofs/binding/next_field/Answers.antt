use Rattle.f_parser.specs.Binding.{todos}
use Rattle.f_parser.specs.Parts.{part_tree, part_trees}
use Rattle.f_parser.proofs.Tasks.{opened, next, none_next}
use Rattle.f_parser.proofs.binding.next_field.Goals as goal

pub returns-in-None : goal.returns-in-None
returns-in-None c =
    λ text v a ts. none_next text (todos c.args.tasks.now.items) (part_trees c.args.parts) v a ts c.in-None.ensures

pub returns-in_ok-push-in-Some : goal.returns-in_ok-push-in-Some
returns-in_ok-push-in-Some c =
    opened c.push-in-Some.result _ _
    (λ eq text v a ts. next text (todos c.args.tasks.now.items) (todos c.push.new.tasks.items)
    (todos c.push-in-Some.new.tasks.items) (part_trees c.args.parts) (part_trees c.in-Some.rest)
    (part_tree c.in-Some.first) v a ts
    c.in-Some.ensures c.in_ok-push-in-Some.ensures eq)
    c.push-in-Some.ensures
