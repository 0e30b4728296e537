use Rattle.std.proofs.Common.{◌≡◌, ◌++◌, drop}
use Rattle.x_pass.specs.Layout.{starts, stop, AreAllShort}
use Rattle.x_pass.proofs.layout.labels_of.Given as goal

abbrev pub invariant-loop-block : goal.invariant-loop-block
invariant-loop-block l = record {
  places : l.places.items ++ starts l.end (drop l.block-index l.blocks) ≡ starts l.base l.blocks;
  end : stop l.end (drop l.block-index l.blocks) ≡ stop l.base l.blocks;
  short : AreAllShort (drop l.block-index l.blocks);
}
