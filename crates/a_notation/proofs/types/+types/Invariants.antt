use Rattle.std.proofs.Common.{◌++◌, ◌≤◌, ◌-◌, drop}
use Rattle.page_core.proofs.Listed.{Left, listed}
use Rattle.a_notation.proofs.TypeTexts.{field_item, type_item}
use Rattle.a_notation.proofs.types.+types.Given as goal

abbrev pub invariant-write_types-loop-at : goal.invariant-write_types-loop-at
invariant-write_types-loop-at l = record {
  past : l.from ≤ l.at;
  written : Left (type_item l.depth) l.text.items (l.at - l.from) l.at l.ts
      (l.initial.text.items ++ listed (type_item l.depth) 0 (drop l.from l.ts));
}

abbrev pub invariant-write_fields-loop-i : goal.invariant-write_fields-loop-i
invariant-write_fields-loop-i l =
    Left (field_item l.depth) l.text.items l.i l.i l.fields
    (l.initial.text.items ++ listed (field_item l.depth) 0 l.fields)
