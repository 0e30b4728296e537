use Rattle.t_terms.specs.SpannedLaws.{plain_over}
use Rattle.t_terms.proofs.laws.places_aside.Goals as goal

pub returns : goal.returns
returns c = plain_over
