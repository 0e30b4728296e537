use Rattle.f_terms.specs.OneType.{one_type}
use Rattle.f_terms.proofs.laws.one_type.Goals as goal

pub returns : goal.returns
returns c = one_type
