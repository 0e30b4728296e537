use Rattle.f_terms.proofs.Turns.{more_turns}
use Rattle.f_terms.proofs.laws.more_turns_keep_the_value.Goals as goal

pub returns : goal.returns
returns c = more_turns
