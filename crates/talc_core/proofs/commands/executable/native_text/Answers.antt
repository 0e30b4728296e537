use Rattle.t_terms.specs.ReadProgram.{spanned_program}
use Rattle.t_check.specs.Checked.{checked_program}
use Rattle.talc_core.proofs.commands.executable.native_text.Goals as goal

pub returns : goal.returns
returns c = record {
  program = spanned_program (checked_program c.in_ok-checked.checked);
  accepted = c.in_ok-checked.ensures;
  native = c.in_ok-file.ensures.native;
  code = c.in_ok-file.ensures.code;
  bounds = c.in_ok-file.ensures.fits;
}
