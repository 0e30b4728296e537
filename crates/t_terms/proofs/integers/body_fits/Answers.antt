use Rattle.std.proofs.Common.{List}
use Rattle.idx_core.specs.declared.span.Span.{Span}
use Rattle.t_terms.specs.declared.instr.Instr.{Instr}
use Rattle.t_terms.specs.Read.{body, end_of}
use Rattle.t_terms.specs.Spanned.{seq_of}
use Rattle.t_terms.specs.Tree.{TEnd}
use Rattle.t_terms.specs.Values.{SeqValues}
use Rattle.t_terms.specs.Whole.{ValueFits}
use Rattle.t_terms.proofs.Fitting.{at_item, at_end}
use Rattle.t_terms.proofs.integers.body_fits.Goals as goal

abbrev Fits : TEnd → List (Instr × Span) → Type 0
Fits e xs = SeqValues ValueFits (seq_of (body xs) e)

pub loop-entry-init : goal.loop-entry-init
loop-entry-init c = λ x. x

pub loop-entry-preserved : goal.loop-entry-preserved
loop-entry-preserved c = λ rest.
    c.loop-entry.invariant
    (at_item (Fits (end_of c.args.end.now)) c.args.body.now c.loop-entry.entry-index c.entry-item.result
    c.entry-item.is c.loop-entry-test.true (c.instr_fits.ensures, rest))

pub returns : goal.returns
returns c =
    c.loop-entry.invariant
    (at_end (Fits (end_of c.args.end.now)) c.args.body.now c.loop-entry.entry-index c.loop-entry-test.false
    c.end_fits.ensures)
