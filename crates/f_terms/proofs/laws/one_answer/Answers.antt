use Rattle.f_terms.proofs.Turns.{one_answer}
use Rattle.f_terms.proofs.laws.one_answer.Goals as goal

pub returns : goal.returns
returns c = one_answer
