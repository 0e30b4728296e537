use Rattle.std.proofs.Common.{drop}
use Rattle.t_terms.specs.Read.{body, end_of}
use Rattle.t_terms.specs.Spanned.{seq_of}
use Rattle.t_terms.specs.Values.{SeqValues}
use Rattle.t_terms.specs.Whole.{ValueFits}
use Rattle.t_terms.proofs.integers.body_fits.Given as goal

abbrev pub invariant-loop-entry : goal.invariant-loop-entry
invariant-loop-entry l =
    SeqValues ValueFits (seq_of (body (drop l.entry-index l.body)) (end_of l.end)) →
    SeqValues ValueFits (seq_of (body l.body) (end_of l.end))
