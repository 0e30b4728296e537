use Rattle.std.proofs.Common.{drop}
use Rattle.t_terms.specs.Read.{blocks_of}
use Rattle.assembly_rows.specs.FewNames.{FewInBlocks}
use Rattle.assembly_rows.proofs.tests.few_names.few_in_blocks.Given as goal

abbrev pub invariant-loop-block : goal.invariant-loop-block
invariant-loop-block l = FewInBlocks 1000 (blocks_of (drop l.block-index l.blocks)) → FewInBlocks 1000
    (blocks_of l.blocks)
