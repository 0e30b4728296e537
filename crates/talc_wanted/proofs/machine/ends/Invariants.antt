use Rattle.std.proofs.Common.{◌≡◌, drop}
use Rattle.talc_wanted.specs.Owing.{may_finish, from_top}
use Rattle.talc_wanted.proofs.machine.ends.Given as goal

abbrev pub invariant-loop-sym : goal.invariant-loop-sym
invariant-loop-sym g l =
    may_finish g.G.Language.owes (from_top l.owed) ≡ may_finish g.G.Language.owes (drop l.sym-index l.owed)
