use Rattle.f_terms.specs.ReadTerm.{spanned}
use Rattle.f_check.specs.Typed.{program_term}
use Rattle.talc_core.proofs.FormLemmas.{form_shown}
use Rattle.talc_core.proofs.commands.show.form_of_text.Goals as goal

pub returns : goal.returns
returns c =
    form_shown c.forms_are_of_translations.ensures c.args.form c.args.source.now c.in_ok-line.line.items
    (spanned (program_term c.in_ok-program.program)) c.in_ok-program.ensures c.in_ok-line.ensures
