use Rattle.h_terms.proofs.laws.h_within_is_typed_law.Goals as goal
use Rattle.c_terms.specs.Reach.{CWithin}
use Rattle.h_terms.proofs.Each.{plain_program}

pub returns : goal.returns
returns c = λ N R B ks t h. plain_program (CWithin N R B) ks t h
