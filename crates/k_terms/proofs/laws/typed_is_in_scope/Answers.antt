use Rattle.std.proofs.Common.{[]}
use Rattle.k_terms.proofs.Scoped.{good_in}
use Rattle.k_terms.proofs.laws.typed_is_in_scope.Goals as goal

pub returns : goal.returns
returns c = λ t h. good_in t 0 [] h
