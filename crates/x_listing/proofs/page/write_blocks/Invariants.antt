use Rattle.std.proofs.Common.{◌≡◌, ◌++◌, drop, map}
use Rattle.w_terms.specs.Read.{block}
use Rattle.x_pass.specs.Layout.{place_of, AreAllShort}
use Rattle.x_listing.specs.Lines.{page_text, blocks_lines}
use Rattle.x_listing.specs.Read.{notes_of}
use Rattle.x_listing.proofs.page.write_blocks.Given as goal

abbrev pub invariant-loop-l : goal.invariant-loop-l
invariant-loop-l l = record {
  lines : l.page.items
      ++ page_text (blocks_lines (place_of l.labels) (notes_of l.notes) l.l (map block (drop l.l l.blocks)))
      ≡ l.initial.page.items
      ++ page_text (blocks_lines (place_of l.labels) (notes_of l.notes) 0 (map block l.blocks));
  short : AreAllShort (drop l.l l.blocks);
}
