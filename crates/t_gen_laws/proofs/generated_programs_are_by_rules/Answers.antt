use Rattle.t_gen_laws.proofs.ByRules.{generated_is}
use Rattle.t_gen_laws.proofs.generated_programs_are_by_rules.Goals as goal

pub returns : goal.returns
returns c = generated_is
