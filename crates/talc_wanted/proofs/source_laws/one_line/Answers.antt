use Rattle.f_lexer.specs.Source.{IsCut}
use Rattle.f_lexer.proofs.Exact.{one_cut}
use Rattle.f_grammar.specs.Machine.{table}
use Rattle.talc_wanted.proofs.Exact.{one_line}
use Rattle.talc_wanted.specs.SourceWords.{source_kinds}
use Rattle.talc_wanted.proofs.source_laws.one_line.Goals as goal

pub returns : goal.returns
returns c = one_line table source_kinds IsCut one_cut
