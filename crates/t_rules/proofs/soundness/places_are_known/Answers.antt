use Rattle.t_rules.proofs.Runs.{one_known, places_are_known}
use Rattle.t_rules.proofs.soundness.places_are_known.Goals as goal

pub returns : goal.returns
returns c = record { one = one_known; there = places_are_known }
