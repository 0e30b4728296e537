use Rattle.std.proofs.Common.{◌≡◌, drop}
use Rattle.t_types.specs.Fits.{lookup}
use Rattle.t_types.specs.Read.{file}
use Rattle.t_types.proofs.fitting.find.Given as goal

abbrev pub invariant-loop-reg : goal.invariant-loop-reg
invariant-loop-reg l = lookup (file l.regs) l.r ≡ lookup (file (drop l.reg-index l.regs)) l.r
