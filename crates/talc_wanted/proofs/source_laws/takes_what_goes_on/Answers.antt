use Rattle.f_grammar.specs.Machine.{table}
use Rattle.f_grammar.proofs.Instance.{claims}
use Rattle.talc_wanted.proofs.Exact.{takes_what_goes_on}
use Rattle.talc_wanted.proofs.source_laws.takes_what_goes_on.Goals as goal

pub returns : goal.returns
returns c = takes_what_goes_on table claims
