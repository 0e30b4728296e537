use Rattle.std.proofs.Common.{sym, subst}
use Rattle.f_terms.specs.ReadTerm.{spanned, term_of}
use Rattle.f_terms.specs.Scope.{IsClosed}
use Rattle.talc_core.proofs.SourceLemmas.{closed}
use Rattle.talc_core.proofs.ExplainLemmas.{unread_source}
use Rattle.talc_core.proofs.finding.find_in_source.Goals as goal

pub check-requires-clause-closed : goal.check-requires-clause-closed
check-requires-clause-closed c =
    closed c.closed_terms.ensures c.args.text.now (spanned c.in-Ok.term) c.in-Ok.ensures.right

pub find_in_refused-requires-clause-closed : goal.find_in_refused-requires-clause-closed
find_in_refused-requires-clause-closed c =
    let whole = closed c.closed_terms.ensures c.args.text.now (spanned c.in-Ok.term) c.in-Ok.ensures.right in
    subst (λ t. IsClosed (term_of t)) (sym c.in-Err-check.ensures.right.0) whole

pub returns-in-Err : goal.returns-in-Err
returns-in-Err c =
    unread_source c.args.text.now c.in-Err.fault c.from.result c.bare.result c.from.ensures c.in-Err.ensures.right
    c.bare.ensures
