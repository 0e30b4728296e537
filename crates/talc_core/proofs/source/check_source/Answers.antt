use Rattle.talc_core.proofs.SourceLemmas.{closed, few}
use Rattle.f_terms.specs.ReadTerm.{spanned}
use Rattle.talc_core.proofs.source.check_source.Goals as goal

pub check-requires-clause-closed : goal.check-requires-clause-closed
check-requires-clause-closed c = closed c.closed_terms.ensures _ (spanned c.in_ok-term.term) c.in_ok-term.ensures.right

pub check-requires-clause-nodes : goal.check-requires-clause-nodes
check-requires-clause-nodes c = few c.args.source.now (spanned c.in_ok-term.term) c.in_ok-term.ensures.right
