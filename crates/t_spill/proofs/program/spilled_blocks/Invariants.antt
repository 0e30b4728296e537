use Rattle.std.proofs.Common.{◌≡◌, ◌∷◌, ◌++◌, drop}
use Rattle.t_terms.specs.Read.{blocks_of}
use Rattle.t_terms.specs.ReadProgram.{program}
use Rattle.t_spill_rules.specs.Spill.{sp_blocks, entry}
use Rattle.t_spill.proofs.program.spilled_blocks.Given as goal

abbrev pub invariant-loop-block : goal.invariant-loop-block
invariant-loop-block l =
    blocks_of l.made.items
    ++ sp_blocks l.split.low (program l.program) (blocks_of (drop l.block-index l.blocks))
    ≡ entry l.split.low ∷ sp_blocks l.split.low (program l.program) (blocks_of l.blocks)
