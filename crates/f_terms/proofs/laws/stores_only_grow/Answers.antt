use Rattle.f_terms.proofs.Turns.{store_grows}
use Rattle.f_terms.proofs.laws.stores_only_grow.Goals as goal

pub returns : goal.returns
returns c = store_grows
