use Rattle.std.proofs.Common.{◌≡◌, drop}
use Rattle.talc_faults.specs.Choice.{pick, lent, read}
use Rattle.talc_faults.proofs.choice.pick.Given as goal

abbrev pub invariant-loop-row : goal.invariant-loop-row
invariant-loop-row l = pick (read l.facts) (lent l.rows) l.otherwise
    ≡ pick (read l.facts) (lent (drop l.row-index l.rows)) l.otherwise
