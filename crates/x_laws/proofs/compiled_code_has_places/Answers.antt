use Rattle.x_laws.proofs.Begins.{compiled_has_places}
use Rattle.x_laws.proofs.compiled_code_has_places.Goals as goal

pub returns : goal.returns
returns c = compiled_has_places
