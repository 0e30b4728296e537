use Rattle.t_text.proofs.Nested.{keeps_by_nesting}
use Rattle.t_text.proofs.nesting_laws.keeps_by_nesting.Goals as goal

pub returns : goal.returns
returns c = keeps_by_nesting
