use Rattle.std.proofs.Common.{sym, subst}
use Rattle.f_terms.specs.Read.{tree}
use Rattle.f_terms.specs.ReadTerm.{spanned}
use Rattle.f_check.specs.Typed.{typed_term, typed_type}
use Rattle.talc_core.specs.FirstFault.{AProgram}
use Rattle.talc_core.specs.OnTexts.{RefusedBy}
use Rattle.talc_core.proofs.SourceLemmas.{no_program}
use Rattle.talc_core.proofs.source.read_program.Goals as goal

pub returns-in-Err : goal.returns-in-Err
returns-in-Err c =
    let typed = c.in_ok-typed.typed in
    let refused = c.in-Err.ensures in
    subst (RefusedBy AProgram c.args.source.now) (sym c.not_a_program.ensures)
    (no_program c.args.source.now (spanned (typed_term typed)) (tree (typed_type typed)) c.in-Err.refused.1
    c.in_ok-typed.ensures refused.2 refused.1)
