use Rattle.std.proofs.Common.{◌≡◌, take}
use Rattle.a_terms.specs.Typing.{aflagged}
use Rattle.a_terms.specs.Read.{atrees, afields}
use Rattle.a_terms.proofs.parts.flagged_tuple.Given as goal

abbrev pub invariant-loop-t : goal.invariant-loop-t
invariant-loop-t l = afields l.fields.items ≡ aflagged l.flag (atrees (take l.t-index l.types))
