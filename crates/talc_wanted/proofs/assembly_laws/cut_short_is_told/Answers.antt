use Rattle.t_text.specs.GrammarTable.{table}
use Rattle.t_text.proofs.Instance.{claims}
use Rattle.talc_wanted.proofs.Exact.{cut_short_is_told}
use Rattle.talc_wanted.specs.AssemblyWords.{assembly_kinds}
use Rattle.talc_wanted.proofs.assembly_laws.cut_short_is_told.Goals as goal

pub returns : goal.returns
returns c = cut_short_is_told table claims assembly_kinds
