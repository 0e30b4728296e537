use Rattle.talc_core.proofs.SeedLemmas.{checks}
use Rattle.talc_core.proofs.commands.seed.check_target.Goals as goal

pub returns : goal.returns
returns c =
    checks c.no_fault_where_taken.ensures c.args.target.now c.requires c.check_assembly.result c.check_assembly.ensures
