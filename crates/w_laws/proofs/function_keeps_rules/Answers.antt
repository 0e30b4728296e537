use Rattle.w_laws.proofs.Fitting.{translated_by_rules}
use Rattle.w_laws.proofs.function_keeps_rules.Goals as goal

pub returns : goal.returns
returns c = translated_by_rules
