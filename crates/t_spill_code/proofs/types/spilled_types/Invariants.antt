use Rattle.std.proofs.Common.{◌≡◌, take, map}
use Rattle.t_types.specs.Read.{tree}
use Rattle.t_spill_rules.specs.Spill.{sp}
use Rattle.t_spill_code.proofs.types.spilled_types.Given as goal

abbrev pub invariant-loop-t : goal.invariant-loop-t
invariant-loop-t l = map tree l.made.items ≡ map (λ t. sp l.split.low (tree t)) (take l.t-index l.ts)
