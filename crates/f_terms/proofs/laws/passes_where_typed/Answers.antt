use Rattle.f_terms.proofs.Limited.{passes_where_typed}
use Rattle.f_terms.proofs.laws.passes_where_typed.Goals as goal

pub returns : goal.returns
returns c = passes_where_typed
