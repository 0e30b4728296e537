use Rattle.std.proofs.Common.{◌≡◌, ℕ, take}
use Rattle.std.specs.Prelude.{◌||◌}
use Rattle.t_gen_rules.specs.Gen.{uses_any}
use Rattle.a_terms.specs.NodeTrees.{a_values}
use Rattle.t_gen.specs.Uses.{has}
use Rattle.t_gen.proofs.used.note_all.Given as goal

abbrev pub invariant-loop-v : goal.invariant-loop-v
invariant-loop-v l = (i : ℕ) → has l.used i ≡ (has l.fn.used i || uses_any (a_values (take l.v-index l.values)) i)
