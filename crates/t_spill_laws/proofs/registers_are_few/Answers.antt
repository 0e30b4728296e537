use Rattle.t_spill_rules.specs.Spill.{lows}
use Rattle.t_spill_laws.proofs.Lows.{six_more}
use Rattle.t_spill_laws.proofs.Few.{few_registers}
use Rattle.t_spill_laws.proofs.registers_are_few.Goals as goal

pub returns : goal.returns
returns c = λ k h. few_registers k (lows k) (six_more k h)
