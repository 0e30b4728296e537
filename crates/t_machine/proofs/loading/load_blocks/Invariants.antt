use Rattle.std.proofs.Common.{◌≡◌, map, take}
use Rattle.t_terms.specs.Read.{blocks_of}
use Rattle.t_rules.specs.Erase.{erase_block}
use Rattle.t_machine.specs.Code.{all_moved}
use Rattle.t_machine.specs.Heap.{AllStarted}
use Rattle.t_machine.specs.Laid.{begins, IsNamed}
use Rattle.t_machine.specs.Lowering.{IsFilled}
use Rattle.t_machine.proofs.loading.load_blocks.Given as goal

abbrev pub invariant-loop-block : goal.invariant-loop-block
invariant-loop-block l = record {
  filled : IsFilled l.code (map erase_block (blocks_of (take l.block-index l.blocks)));
  entries : l.code.entries.items ≡ begins 0 (map erase_block (blocks_of l.blocks));
  named : IsNamed l.code (map erase_block (blocks_of (take l.block-index l.blocks)));
  started : AllStarted l.starts (all_moved l.code.instructions.items);
}
