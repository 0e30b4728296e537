use Rattle.std.proofs.Common.{false}
use Rattle.f_terms.specs.Ty.{TInt, NoTys}
use Rattle.k_laws.proofs.Quiet.{noted, one_conversion}
use Rattle.k_laws.proofs.one_conversion.Goals as goal

pub returns : goal.returns
returns c = λ e h b. (noted false e 0 NoTys TInt h b, one_conversion e b)
