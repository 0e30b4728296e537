use Rattle.k_terms.proofs.Backs.{reads_back}
use Rattle.k_terms.proofs.laws.nodes_are_read_back.Goals as goal

pub returns : goal.returns
returns c = reads_back
