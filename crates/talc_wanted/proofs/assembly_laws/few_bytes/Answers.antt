use Rattle.t_text.specs.GrammarTable.{table}
use Rattle.talc_wanted.proofs.Lengths.{few_bytes}
use Rattle.talc_wanted.specs.AssemblyWords.{assembly_kinds}
use Rattle.talc_wanted.proofs.assembly_laws.few_bytes.Goals as goal

pub returns : goal.returns
returns c = few_bytes table assembly_kinds
