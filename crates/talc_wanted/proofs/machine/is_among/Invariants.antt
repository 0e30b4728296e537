use Rattle.std.proofs.Common.{◌≡◌, drop}
use Rattle.talc_wanted.specs.Owing.{ends_in}
use Rattle.talc_wanted.proofs.machine.is_among.Given as goal

abbrev pub invariant-loop-one : goal.invariant-loop-one
invariant-loop-one g l =
    ends_in g.G.Language.owes l.lines l.line ≡ ends_in g.G.Language.owes (drop l.one-index l.lines) l.line
