use Rattle.t_terms.specs.ReadProgram.{spanned_program}
use Rattle.t_check.specs.Checked.{checked_program}
use Rattle.talc_core.proofs.commands.listed.listing_text.Goals as goal

pub returns : goal.returns
returns c = record {
  program = spanned_program (checked_program c.in_ok-program.program);
  accepted = c.in_ok-program.ensures;
  listed = c.in_ok-line.ensures;
}
