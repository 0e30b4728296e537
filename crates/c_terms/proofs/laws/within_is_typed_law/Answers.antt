use Rattle.std.proofs.Common.{[]}
use Rattle.c_terms.specs.Reach.{CWithin}
use Rattle.c_terms.proofs.Each.{plain_t}
use Rattle.c_terms.proofs.laws.within_is_typed_law.Goals as goal

pub returns : goal.returns
returns c = λ N R B t h. plain_t (CWithin N R B) t 0 [] h
