use Rattle.f_grammar.specs.Machine.{table}
use Rattle.f_grammar.proofs.Instance.{claims}
use Rattle.talc_wanted.proofs.Exact.{unexpected_is_told}
use Rattle.talc_wanted.specs.SourceWords.{source_kinds}
use Rattle.talc_wanted.proofs.source_laws.unexpected_is_told.Goals as goal

pub returns : goal.returns
returns c = unexpected_is_told table claims source_kinds
