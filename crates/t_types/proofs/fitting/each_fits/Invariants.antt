use Rattle.std.proofs.Common.{take, All}
use Rattle.t_types.specs.Fits.{lookup}
use Rattle.t_types.specs.Read.{file}
use Rattle.t_types.proofs.Files.{RegFits}
use Rattle.t_types.proofs.fitting.each_fits.Given as goal

abbrev pub invariant-loop-reg : goal.invariant-loop-reg
invariant-loop-reg l = All (RegFits (lookup (file l.a))) (take l.reg-index l.b)
