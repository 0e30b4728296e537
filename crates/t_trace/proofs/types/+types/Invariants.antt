use Rattle.std.proofs.Common.{◌++◌, ◌≤◌, length}
use Rattle.t_trace.proofs.Rendered.{Left, listed, reg_item, field_item}
use Rattle.t_trace.proofs.types.+types.Given as goal

abbrev pub invariant-write_fields-loop-i : goal.invariant-write_fields-loop-i
invariant-write_fields-loop-i l = record {
  room : l.depth ≤ length l.text.items;
  written : Left (field_item l.vars l.depth) l.text.items l.i l.fields
      (l.initial.text.items ++ listed (field_item l.vars l.depth) 0 l.fields);
}

abbrev pub invariant-write_regs-loop-i : goal.invariant-write_regs-loop-i
invariant-write_regs-loop-i l = record {
  room : l.depth ≤ length l.text.items;
  written : Left (reg_item l.vars l.depth) l.text.items l.i l.regs
      (l.initial.text.items ++ listed (reg_item l.vars l.depth) 0 l.regs);
}
