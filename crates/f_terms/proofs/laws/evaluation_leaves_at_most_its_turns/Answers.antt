use Rattle.f_terms.proofs.Turns.{leaves_at_most}
use Rattle.f_terms.proofs.laws.evaluation_leaves_at_most_its_turns.Goals as goal

pub returns : goal.returns
returns c = leaves_at_most
