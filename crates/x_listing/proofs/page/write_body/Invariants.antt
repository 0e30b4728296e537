use Rattle.std.proofs.Common.{◌≡◌, ◌++◌, ◌≤◌, length, drop}
use Rattle.w_terms.specs.Read.{seq}
use Rattle.x_pass.specs.Layout.{place_of}
use Rattle.x_pass.specs.Short.{AreShort}
use Rattle.x_listing.specs.Lines.{page_text, seq_lines}
use Rattle.x_listing.specs.Remarks.{note_at}
use Rattle.x_listing.specs.Read.{notes_of}
use Rattle.x_listing.proofs.page.write_body.Given as goal

abbrev pub invariant-loop-k : goal.invariant-loop-k
invariant-loop-k l = record {
  lines : l.page.items
      ++ page_text
      (seq_lines (place_of l.labels) (notes_of l.notes) (note_at (notes_of l.notes) l.l).before l.k l.at
      (seq (drop l.k l.body) l.block.«end»))
      ≡ l.initial.page.items
      ++ page_text
      (seq_lines (place_of l.labels) (notes_of l.notes) (note_at (notes_of l.notes) l.l).before 0
      (place_of l.labels l.l) (seq l.body l.block.«end»));
  short : AreShort (drop l.k l.body);
  within : l.k ≤ length l.body;
}
