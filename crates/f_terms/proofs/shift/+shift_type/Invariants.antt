use Rattle.std.proofs.Common.{◌≡◌, take, map, All}
use Rattle.f_terms.specs.Ty.{shift, ShiftFits}
use Rattle.f_terms.specs.Read.{tree}
use Rattle.f_terms.proofs.shift.+shift_type.Given as goal

abbrev pub invariant-loop-part : goal.invariant-loop-part
invariant-loop-part l = record {
  fits : All (λ t. ShiftFits l.by l.cut (tree t)) l.part-items;
  made : map tree l.parts.items ≡ map (λ t. shift l.by l.cut (tree t)) (take l.part-index l.part-items);
}
