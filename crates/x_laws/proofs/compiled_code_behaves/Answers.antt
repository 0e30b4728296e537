use Rattle.x_laws.proofs.Begins.{compiled_behaves}
use Rattle.x_laws.proofs.compiled_code_behaves.Goals as goal

pub returns : goal.returns
returns c = compiled_behaves
