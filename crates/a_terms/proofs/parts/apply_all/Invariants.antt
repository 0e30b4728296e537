use Rattle.std.proofs.Common.{◌≡◌, drop}
use Rattle.a_terms.specs.Typing.{applied}
use Rattle.a_terms.specs.Read.{atrees}
use Rattle.a_terms.specs.Read.{maybe}
use Rattle.a_terms.proofs.parts.apply_all.Given as goal

abbrev pub invariant-loop-t : goal.invariant-loop-t
invariant-loop-t l =
    applied (maybe l.made) (atrees (drop l.t-index l.ts)) ≡ applied (maybe l.initial.made) (atrees l.ts)
