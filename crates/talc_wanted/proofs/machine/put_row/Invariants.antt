use Rattle.std.proofs.Common.{◌≡◌, drop}
use Rattle.talc_wanted.specs.Wanted.{lent}
use Rattle.talc_wanted.specs.Owing.{row_in}
use Rattle.talc_wanted.proofs.machine.put_row.Given as goal

abbrev pub invariant-loop-one : goal.invariant-loop-one
invariant-loop-one g l =
    (row_in g.G.Language.owes (lent l.rows) l.line l.token
    ≡ row_in g.G.Language.owes (lent (drop l.one-index l.rows)) l.line l.token)
    × (l.row.items ≡ l.initial.row.items)
