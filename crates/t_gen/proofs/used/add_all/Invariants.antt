use Rattle.std.proofs.Common.{◌≡◌, ℕ, take}
use Rattle.std.specs.Prelude.{◌||◌}
use Rattle.t_gen.specs.Uses.{has, mem}
use Rattle.t_gen.proofs.used.add_all.Given as goal

abbrev pub invariant-loop-i : goal.invariant-loop-i
invariant-loop-i l = (q : ℕ) → has l.used q ≡ (has l.fn.used q || mem (take l.i l.numbers) q)
