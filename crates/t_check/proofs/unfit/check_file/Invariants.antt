use Rattle.std.proofs.Common.{drop}
use Rattle.t_intern.specs.Grown.{Grown}
use Rattle.t_known.specs.Known.{known}
use Rattle.t_check.proofs.Missing.{FileLeft}
use Rattle.t_check.proofs.unfit.check_file.Given as goal

abbrev pub invariant-loop-reg : goal.invariant-loop-reg
invariant-loop-reg l = record {
  grown : Grown l.fn.types l.types;
  left : FileLeft l.registers.names (known l.fn.types l.registers) l.span l.fn.types l.regs (drop l.reg-index l.regs);
}
