use Rattle.f_grammar.specs.Machine.{table}
use Rattle.talc_wanted.proofs.Lengths.{few_bytes}
use Rattle.talc_wanted.specs.SourceWords.{source_kinds}
use Rattle.talc_wanted.proofs.source_laws.few_bytes.Goals as goal

pub returns : goal.returns
returns c = few_bytes table source_kinds
