use Rattle.t_rules.proofs.Runs.{places_are_typed, places_go_on}
use Rattle.t_rules.proofs.soundness.places_go_on.Goals as goal

pub returns : goal.returns
returns c = record { typed = places_are_typed; next = places_go_on }
