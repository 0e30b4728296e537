use Rattle.std.proofs.Common.{◌≡◌, take, true}
use Rattle.a_terms.specs.Read.{atree}
use Rattle.a_terms.specs.declared.types.AType.{AType}
use Rattle.a_laws.specs.Allocate.{closed}
use Rattle.a_pass.proofs.Every.{every}
use Rattle.a_pass.proofs.constants.all_closed.Given as goal

abbrev pub invariant-loop-t : goal.invariant-loop-t
invariant-loop-t l = every (λ (t : AType). closed 0 (atree t)) (take l.t-index l.ts) ≡ true
