use Rattle.talc_core.proofs.SeedLemmas.{reads}
use Rattle.talc_core.proofs.commands.seed.read_seed.Goals as goal

pub returns : goal.returns
returns c = reads c.no_fault_where_taken.ensures c.sources_are_programs.ensures c.args.seed c.args.text.now c.requires
    c.read_program.result c.read_program.ensures
