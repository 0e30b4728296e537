use Rattle.std.proofs.Common.{◌≡◌, take, map}
use Rattle.t_types.specs.Read.{reg, flag}
use Rattle.t_types.proofs.copying.+copies.Given as goal

abbrev pub invariant-copy_regs-loop-reg : goal.invariant-copy_regs-loop-reg
invariant-copy_regs-loop-reg l = map reg l.made.items ≡ map reg (take l.reg-index l.regs)

abbrev pub invariant-copy_flagged-loop-field : goal.invariant-copy_flagged-loop-field
invariant-copy_flagged-loop-field l = map flag l.made.items ≡ map flag (take l.field-index l.fs)
