use Rattle.std.proofs.Common.{◌≡◌, ◌++◌, map}
use Rattle.t_types.specs.Read.{reg}
use Rattle.t_intern.specs.Grown.{Grown}
use Rattle.t_check.proofs.Walking.{shown, AreEntries}
use Rattle.t_check.proofs.walk.file_of.Given as goal

abbrev pub invariant-loop-pair : goal.invariant-loop-pair
invariant-loop-pair l = record {
  grown : Grown l.fn.types l.types;
  valid : AreEntries l.fn.types l.registers.names l.pair-iterator;
  made : map reg l.regs.items ++ shown l.fn.types l.registers.names l.pair-iterator
      ≡ shown l.fn.types l.registers.names l.registers.entries.entries;
}
