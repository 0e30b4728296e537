use Rattle.t_text.proofs.Nested.{counts_open}
use Rattle.t_text.proofs.nesting_laws.counts_open.Goals as goal

pub returns : goal.returns
returns c = counts_open
