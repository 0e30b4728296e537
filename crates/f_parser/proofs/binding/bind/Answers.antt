use Rattle.std.proofs.Common.{◌∷◌, [], ap, subst}
use Rattle.std.proofs.lemmas.Result.{err_from_is_err_and}
use Rattle.f_terms.specs.ReadTerm.{spanned}
use Rattle.f_terms.specs.Stacked.{trees_of}
use Rattle.f_grammar.specs.Term.{tree_of}
use Rattle.f_parser.specs.Binding.{Bind, todo, todos, stand, uses_of, uses_left, values_left, types_left, Follows}
use Rattle.f_parser.proofs.Tasks.{then, ended, stop_of_whole}
use Rattle.f_parser.proofs.binding.bind.Goals as goal

pub returns-in_err-do_task : goal.returns-in_err-do_task
returns-in_err-do_task c =
    let p = err_from_is_err_and c.from_residual-in_err-do_task.result c.from_residual-in_err-do_task.ensures.1 in
    let text = c.args.text.now in
    let l = c.loop-task in
    let s = l.state in
    let t = todo c.in-Some.task in
    rw (p.1, p.2)
    (stop_of_whole text (tree_of c.args.term.now) (stand (todos s.tasks.items) s.values s.types (trees_of s.stack))
    (uses_of text t s.values s.types)
    (uses_left text (todos c.pop.new.tasks.items) (values_left text t s.values) (types_left text t s.types)) _
    l.invariant (ap (λ tds. uses_left text tds s.values s.types) c.in-Some.ensures) c.in_err-do_task.ensures)

pub loop-task-preserved : goal.loop-task-preserved
loop-task-preserved c =
    let text = c.args.text.now in
    let l = c.loop-task in
    let s = l.state in
    let start = stand (Bind (tree_of c.args.term.now) ∷ []) [] [] [] in
    then text start (stand (todo c.in-Some.task ∷ todos c.pop.new.tasks.items) s.values s.types (trees_of s.stack))
    (stand (todos c.do_task.new.state.tasks.items) c.do_task.new.state.values c.do_task.new.state.types
    (trees_of c.do_task.new.state.stack))
    (subst (λ tds. Follows text start (stand tds s.values s.types (trees_of s.stack))) c.in-Some.ensures l.invariant)
    c.in_ok-do_task.ensures.0

pub returns : goal.returns
returns c =
    let text = c.args.text.now in
    let l = c.loop-task in
    let s = l.state in
    let start = stand (Bind (tree_of c.args.term.now) ∷ []) [] [] [] in
    ended text (tree_of c.args.term.now) s.values s.types (trees_of s.stack) (spanned c.done.result)
    (subst (λ tds. Follows text start (stand tds s.values s.types (trees_of s.stack))) c.in_default.ensures
    l.invariant) c.done.ensures
