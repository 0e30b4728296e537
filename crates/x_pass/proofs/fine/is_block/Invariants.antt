use Rattle.std.proofs.Common.{◌≡◌, true, drop}
use Rattle.x_laws.specs.Going.{IsExit, IsSeq}
use Rattle.w_terms.specs.Read.{seq}
use Rattle.x_pass.proofs.fine.is_block.Given as goal

abbrev pub invariant-loop-instr : goal.invariant-loop-instr
invariant-loop-instr l = record {
  holds : (l.wrote ≡ true → IsExit (seq (drop l.instr-index l.body) l.block.end)) →
      IsSeq l.registers (seq (drop l.instr-index l.body) l.block.end) → IsSeq l.registers (seq l.body l.block.end);
  fails : IsSeq l.registers (seq l.body l.block.end) →
      IsSeq l.registers (seq (drop l.instr-index l.body) l.block.end)
      × (l.wrote ≡ true → IsExit (seq (drop l.instr-index l.body) l.block.end));
}
