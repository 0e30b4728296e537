use Rattle.t_gen_laws.proofs.Correct.{keeps}
use Rattle.t_gen_laws.proofs.rules_mean_the_same.Goals as goal

pub returns : goal.returns
returns c = λ p main P never by_rules whole accepted.
    keeps c.erased_runs_are_runs.ensures.erase c.erased_runs_halt_alike.ensures c.erased_runs_join.ensures.first
    c.places_run_within_entries.ensures p main P by_rules never whole accepted
