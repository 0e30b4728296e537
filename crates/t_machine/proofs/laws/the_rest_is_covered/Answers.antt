use Rattle.t_machine.proofs.Splitting.{rest_covered}
use Rattle.t_machine.proofs.laws.the_rest_is_covered.Goals as goal

pub returns : goal.returns
returns c = rest_covered
