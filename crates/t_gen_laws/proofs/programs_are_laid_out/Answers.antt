use Rattle.t_gen_laws.proofs.Laying.{laid_out}
use Rattle.t_gen_laws.proofs.programs_are_laid_out.Goals as goal

pub returns : goal.returns
returns c = laid_out
