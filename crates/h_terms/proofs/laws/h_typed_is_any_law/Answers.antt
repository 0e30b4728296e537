use Rattle.h_terms.proofs.laws.h_typed_is_any_law.Goals as goal
use Rattle.h_terms.proofs.Each.{Any, any_program, plain_program}

pub returns : goal.returns
returns c = λ ks t. (any_program ks t, plain_program Any ks t)
