use Rattle.std.proofs.Common.{◌≡◌, take, map}
use Rattle.t_types.specs.Read.{tree}
use Rattle.t_spill_code.proofs.Made.{celled}
use Rattle.t_spill_code.proofs.types.cell_types.Given as goal

abbrev pub invariant-loop-reg : goal.invariant-loop-reg
invariant-loop-reg l = map tree l.made.items ≡ map (celled l.split.low) (take l.reg-index l.regs)
