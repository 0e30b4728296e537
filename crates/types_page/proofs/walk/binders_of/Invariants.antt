use Rattle.std.proofs.Common.{◌≡◌}
use Rattle.f_terms.specs.ReadTerm.{spanned}
use Rattle.types_page.specs.Walk.{HasScope, AreReady, all_done, now, start, steps, todos, visited}
use Rattle.types_page.proofs.walk.binders_of.Given as goal

abbrev pub invariant-loop-task : goal.invariant-loop-task
invariant-loop-task l = record {
  same : all_done (todos l.tasks.items) (now l.state) ≡ visited (spanned l.term) start;
  scope : HasScope (now l.state);
  ready : AreReady (todos l.tasks.items) (now l.state);
}

abbrev pub decreases-loop-task : goal.decreases-loop-task
decreases-loop-task l = steps (todos l.tasks.items)
