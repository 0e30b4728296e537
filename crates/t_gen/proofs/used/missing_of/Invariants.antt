use Rattle.std.proofs.Common.{◌≡◌, ℕ, take}
use Rattle.std.specs.Prelude.{◌||◌, ◌&&◌, not}
use Rattle.t_gen.specs.Uses.{has, mem}
use Rattle.t_gen.proofs.used.missing_of.Given as goal

abbrev pub invariant-loop-i : goal.invariant-loop-i
invariant-loop-i l =
    (q : ℕ) → mem l.numbers.items q ≡ (mem l.fn.numbers.items q || (mem (take l.i l.some) q && not (has l.used q)))
