use Rattle.talc_core.specs.FirstFault.{AnAssembly}
use Rattle.talc_core.proofs.FaultLemmas.{no_fault_where_taken}
use Rattle.talc_core.proofs.commands.listed.page_of_fault.Goals as goal

pub unreachable-requires : goal.unreachable-requires
unreachable-requires c =
    let taken = rw c.in-NoFault.is at c.in_ok-find_in_assembly.ensures in
    no_fault_where_taken c.texts_keep_laws.ensures AnAssembly c.args.text.now c.requires.0 taken c.requires.1
