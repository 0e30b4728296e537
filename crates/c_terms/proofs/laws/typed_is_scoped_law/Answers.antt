use Rattle.std.proofs.Common.{[]}
use Rattle.c_terms.proofs.Scoping.{good_within}
use Rattle.c_terms.proofs.laws.typed_is_scoped_law.Goals as goal

pub returns : goal.returns
returns c = λ t h. good_within t 0 [] h
