use Rattle.talc_core.proofs.SeedLemmas.{compiles}
use Rattle.talc_core.proofs.commands.seed.compile_seed.Goals as goal

pub returns : goal.returns
returns c = compiles c.no_fault_where_taken.ensures c.sources_are_programs.ensures c.args.seed c.args.text.now
    c.requires c.compile_text.result c.compile_text.ensures
