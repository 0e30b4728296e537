use Rattle.talc_wanted.proofs.AssemblyAllKinds.{all_are_told}
use Rattle.talc_wanted.proofs.assembly_laws.all_are_told.Goals as goal

pub returns : goal.returns
returns c = all_are_told
