use Rattle.std.proofs.Common.{drop, map}
use Rattle.w_terms.specs.Read.{block}
use Rattle.x_pass.specs.Short.{AreFine, AreSeqs}
use Rattle.x_pass.proofs.fine.are_fine.Given as goal

abbrev pub invariant-loop-block : goal.invariant-loop-block
invariant-loop-block l = record {
  holds : AreFine l.registers (drop l.block-index l.blocks) → AreFine l.registers l.blocks;
  fails : AreSeqs l.registers (map block l.blocks) → AreSeqs l.registers (map block (drop l.block-index l.blocks));
}
