use Rattle.std.proofs.Common.{◌≡◌, map, take}
use Rattle.t_terms.specs.Read.{blocks_of}
use Rattle.t_rules.specs.Erase.{erase_block}
use Rattle.t_machine.specs.Laid.{begins, sizes}
use Rattle.t_machine.proofs.loading.load_entries.Given as goal

abbrev pub invariant-loop-block : goal.invariant-loop-block
invariant-loop-block l = record {
  entries : l.entries.items ≡ begins 0 (map erase_block (blocks_of (take l.block-index l.blocks)));
  start : l.start ≡ sizes (map erase_block (blocks_of (take l.block-index l.blocks)));
}
