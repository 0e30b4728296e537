use Rattle.t_text.proofs.TextExact.{at_most_one_fault}
use Rattle.t_text.proofs.text_laws.at_most_one_fault.Goals as goal

pub returns : goal.returns
returns c = at_most_one_fault
