use Rattle.t_text.specs.GrammarTable.{table}
use Rattle.t_text.proofs.Instance.{claims}
use Rattle.talc_wanted.proofs.Exact.{unexpected_is_told}
use Rattle.talc_wanted.specs.AssemblyWords.{assembly_kinds}
use Rattle.talc_wanted.proofs.assembly_laws.unexpected_is_told.Goals as goal

pub returns : goal.returns
returns c = unexpected_is_told table claims assembly_kinds
