use Rattle.std.proofs.Common.{◌≡◌, drop, length, ◌-◌}
use Rattle.talc_wanted.specs.Owing.{owing, from_top}
use Rattle.talc_wanted.specs.Wanted.{stop}
use Rattle.talc_wanted.proofs.line.line_of.Given as goal

abbrev pub invariant-walk : goal.invariant-walk
invariant-walk g l =
    stop (owing g.G.Language.owes) (g.G.Language.tokens_of l.tokens) (owing g.G.Language.owes).start
    ≡ stop (owing g.G.Language.owes) (drop l.read (g.G.Language.tokens_of l.tokens)) (from_top l.owed.items)

abbrev pub decreases-walk : goal.decreases-walk
decreases-walk g l = length (g.G.Language.tokens_of l.tokens) - l.read
