use Rattle.t_intern.proofs.MadeShifts.{shift_still}
use Rattle.t_intern.proofs.Walked.{shift_kept}
use Rattle.t_intern.proofs.types.Types.shift.Goals as goal

pub returns-then-by-eq0-clause-number : goal.returns-then-by-eq0-clause-number
returns-then-by-eq0-clause-number c = shift_still _ c.args.n c.args.by c.args.cut c.requires.there c.if-by-eq0.true

pub returns-then-bound-cut-clause-number : goal.returns-then-bound-cut-clause-number
returns-then-bound-cut-clause-number c =
    shift_kept _ c.args.n c.bound.result c.args.by c.args.cut c.requires.there c.bound.ensures c.if-bound-cut.true
