use Rattle.t_text.specs.GrammarTable.{table}
use Rattle.t_text.proofs.Instance.{claims}
use Rattle.talc_wanted.proofs.Exact.{takes_what_goes_on}
use Rattle.talc_wanted.proofs.assembly_laws.takes_what_goes_on.Goals as goal

pub returns : goal.returns
returns c = takes_what_goes_on table claims
