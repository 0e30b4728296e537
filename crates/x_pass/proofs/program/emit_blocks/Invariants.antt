use Rattle.std.proofs.Common.{◌≡◌, ◌+◌, ◌++◌, drop, length, map}
use Rattle.x_laws.specs.Layout.{code_from}
use Rattle.w_terms.specs.Read.{block}
use Rattle.x_pass.specs.Homes.{home}
use Rattle.x_pass.specs.Layout.{place_of, AreAllShort}
use Rattle.x_pass.proofs.program.emit_blocks.Given as goal

abbrev pub invariant-loop-block : goal.invariant-loop-block
invariant-loop-block l = record {
  bytes : l.code.items
      ++ code_from home (place_of l.labels) (l.base + length l.code.items) (map block (drop l.block-index l.blocks))
      ≡ l.initial.code.items
      ++ code_from home (place_of l.labels) (l.base + length l.initial.code.items) (map block l.blocks);
  short : AreAllShort (drop l.block-index l.blocks);
}
