use Rattle.talc_wanted.specs.Wanted.{lent}
use Rattle.talc_wanted.specs.Owing.{after_in}
use Rattle.talc_wanted.proofs.Rows.{Now}
use Rattle.talc_wanted.proofs.machine.begin_by.Given as goal

abbrev pub invariant-loop-one : goal.invariant-loop-one
invariant-loop-one g l =
    Now g.G.Language.owes (after_in g.G.Language.owes (lent l.others) l.fn.line l.token) l.token l.others l.one-index
    l.now l.row.items
