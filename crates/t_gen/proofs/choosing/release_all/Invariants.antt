use Rattle.std.proofs.Common.{ℕ, take}
use Rattle.std.specs.Prelude.{Bool, ◌&&◌, not}
use Rattle.a_scope.specs.Scope.{homes}
use Rattle.t_gen.specs.Keeps.{among, is_one}
use Rattle.t_gen.specs.Registers.{Holds}
use Rattle.t_gen.proofs.choosing.release_all.Given as goal

abbrev pub invariant-loop-i : goal.invariant-loop-i
invariant-loop-i l = (h : ℕ → Bool) → Holds l.fn.registers h
    → Holds l.registers (λ r. h r && not (among (λ n. not (is_one l.but n)) (homes l.vars) (take l.i l.gone) r))
