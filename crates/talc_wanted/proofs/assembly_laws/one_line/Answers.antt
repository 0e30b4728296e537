use Rattle.t_text.proofs.Exact.{at_most_one_cut}
use Rattle.t_text.specs.Tokens.{IsCut}
use Rattle.t_text.specs.GrammarTable.{table}
use Rattle.talc_wanted.proofs.Exact.{one_line}
use Rattle.talc_wanted.specs.AssemblyWords.{assembly_kinds}
use Rattle.talc_wanted.proofs.assembly_laws.one_line.Goals as goal

pub returns : goal.returns
returns c = one_line table assembly_kinds IsCut at_most_one_cut
