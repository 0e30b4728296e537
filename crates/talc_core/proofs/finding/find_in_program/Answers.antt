use Rattle.std.proofs.Common.{◌∙◌, ap}
use Rattle.t_terms.specs.ReadProgram.{spanned_program}
use Rattle.talc_faults.specs.declared.type_form.Form.TheVariants.{Untold}
use Rattle.talc_core.specs.AtOdds.{with_no_value}
use Rattle.talc_core.specs.Steps.{told_of}
use Rattle.t_known.specs.ReadMismatch.{mismatch_or_none}
use Rattle.talc_core.proofs.ExplainLemmas.{refused_program}
use Rattle.talc_core.proofs.finding.find_in_program.Goals as goal

pub returns-in_ok-lines-in-Refused : goal.returns-in_ok-lines-in-Refused
returns-in_ok-lines-in-Refused c = λ text read.
    let fault = rw c.in-Refused.is at c.requires.fault in
    refused_program text (spanned_program c.args.program.now) c.in-Refused.code c.in-Refused.span
    (mismatch_or_none c.in_ok-mismatch-in-Refused.mismatch) (told_of c.only.result) read
    (c.in_ok-mismatch-in-Refused.ensures.told c.in-Refused.code c.in-Refused.span fault)
    (c.only.ensures ∙ ap (λ lines. with_no_value lines Untold) c.in_ok-lines-in-Refused.ensures)
