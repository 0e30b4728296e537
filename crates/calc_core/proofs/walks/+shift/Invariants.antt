use Rattle.std.proofs.Common.{◌≡◌, take, map, All}
use Rattle.calc_core.specs.Walks.{shift, ShiftFits}
use Rattle.calc_core.specs.Read.{tree}
use Rattle.calc_core.proofs.walks.+shift.Given as goal

abbrev pub invariant-shift_types-loop-t : goal.invariant-shift_types-loop-t
invariant-shift_types-loop-t l = record {
  fits : All (λ t. ShiftFits l.by l.cut (tree t)) l.ts;
  made : map tree l.made.items ≡ map (λ t. shift l.by l.cut (tree t)) (take l.t-index l.ts);
}
