use Rattle.c_terms.proofs.Bridge.{cput_is}
use Rattle.c_terms.proofs.laws.put_law.Goals as goal

pub returns : goal.returns
returns c = cput_is
