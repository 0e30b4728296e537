use Rattle.std.proofs.Common.{◌≡◌, ◌++◌, take}
use Rattle.t_types.specs.Read.{types}
use Rattle.t_gen_rules.specs.Gen.{tys}
use Rattle.a_terms.specs.Read.{atrees}
use Rattle.t_emit.proofs.types.written_onto.Given as goal

abbrev pub invariant-loop-t : goal.invariant-loop-t
invariant-loop-t l = types l.made.items ≡ types l.fn.before.items ++ tys (atrees (take l.t-index l.ts))
