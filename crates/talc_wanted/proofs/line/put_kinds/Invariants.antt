use Rattle.std.proofs.Common.{◌≡◌, drop}
use Rattle.talc_wanted.specs.Listing.{shown}
use Rattle.talc_wanted.specs.Owing.{owing, from_top}
use Rattle.talc_wanted.specs.Wanted.{told, lent}
use Rattle.talc_wanted.proofs.line.put_kinds.Given as goal

abbrev pub invariant-loop-one : goal.invariant-loop-one
invariant-loop-one g l =
    shown l.line (told (owing g.G.Language.owes) g.G.Language.tells (from_top l.owed) (lent (drop l.one-index l.kinds)))
    ≡ shown l.initial.line (told (owing g.G.Language.owes) g.G.Language.tells (from_top l.owed) (lent l.kinds))
