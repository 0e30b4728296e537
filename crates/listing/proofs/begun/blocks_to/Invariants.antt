use Rattle.std.proofs.Common.{◌≡◌}
use Rattle.t_terms.specs.ReadProgram.{program as plain_of}
use Rattle.t_check.specs.Checked.{checked_program}
use Rattle.listing.proofs.Moved.{BlocksLeftTo}
use Rattle.listing.specs.Writing.{IsLister, program_of, text_of}
use Rattle.listing.proofs.begun.blocks_to.Given as goal

abbrev pub invariant-loop-i : goal.invariant-loop-i
invariant-loop-i l = record {
  lister : IsLister l.lister;
  text : text_of l.lister ≡ l.text;
  program : program_of l.lister ≡ plain_of (checked_program l.fn.program);
  left : BlocksLeftTo l.text (plain_of (checked_program l.fn.program)) l.place
      (checked_program l.fn.program).blocks.items l.i l.page.items;
}
