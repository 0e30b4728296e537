use Rattle.std.proofs.Common.{◌≡◌, take, map, All}
use Rattle.t_types.specs.Tree.{shift, ShiftFits}
use Rattle.t_types.specs.Read.{tree}
use Rattle.t_types.proofs.lists.shift_types.Given as goal

abbrev pub invariant-loop-t : goal.invariant-loop-t
invariant-loop-t l = record {
  fits : All (λ t. ShiftFits l.by l.cut (tree t)) l.ts;
  made : map tree l.made.items ≡ map (λ t. shift l.by l.cut (tree t)) (take l.t-index l.ts);
}
