use Rattle.std.proofs.Common.{◌≡◌, ℕ, take}
use Rattle.std.specs.Prelude.{◌||◌, ◌&&◌, not}
use Rattle.t_gen_rules.specs.Gen.{uses_any}
use Rattle.a_terms.specs.NodeTrees.{a_values}
use Rattle.t_gen.specs.Uses.{has, mem}
use Rattle.t_gen.proofs.used.missing.Given as goal

abbrev pub invariant-loop-v : goal.invariant-loop-v
invariant-loop-v l = (i : ℕ) →
    mem l.numbers.items i
    ≡ (mem l.fn.numbers.items i || (uses_any (a_values (take l.v-index l.values)) i && not (has l.used i)))
