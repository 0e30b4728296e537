use Rattle.std.proofs.Common.{◌≡◌, ◌-◌}
use Rattle.f_seeds.specs.Source.{items_to}
use Rattle.f_seeds.proofs.source.source_of.Given as goal

abbrev pub invariant-loop-place : goal.invariant-loop-place
invariant-loop-place l = l.text.items ≡ items_to l.seed (l.place - 1)
