use Rattle.std.proofs.Common.{◌≡◌, ◌++◌}
use Rattle.t_reader.proofs.types.in_order.Given as goal

abbrev pub invariant-loop-entry : goal.invariant-loop-entry
invariant-loop-entry l = l.regs.items ++ l.entry-iterator ≡ l.fn.file.entries
