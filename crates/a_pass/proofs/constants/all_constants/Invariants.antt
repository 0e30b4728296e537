use Rattle.std.proofs.Common.{◌≡◌, take, true}
use Rattle.a_laws.specs.Allocate.{is_some}
use Rattle.a_pass.specs.Scope.{constant_in, knowns}
use Rattle.a_pass.specs.declared.state.Seen.{Seen}
use Rattle.a_pass.proofs.Every.{every}
use Rattle.a_pass.proofs.constants.all_constants.Given as goal

abbrev pub invariant-loop-one : goal.invariant-loop-one
invariant-loop-one l = every (λ (s : Seen). is_some (constant_in (knowns l.names) s)) (take l.one-index l.seen) ≡ true
