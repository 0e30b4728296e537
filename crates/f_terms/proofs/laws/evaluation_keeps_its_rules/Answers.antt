use Rattle.f_terms.proofs.Turns.{rules_kept}
use Rattle.f_terms.proofs.laws.evaluation_keeps_its_rules.Goals as goal

pub returns : goal.returns
returns c = rules_kept
