use Rattle.talc_core.proofs.LineLemmas.{one_line}
use Rattle.talc_core.proofs.laws.one_line.Goals as goal

pub returns : goal.returns
returns c = one_line c.runs_are_unique.ensures.states c.places_are_known.ensures.one
