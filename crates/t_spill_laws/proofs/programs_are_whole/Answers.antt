use Rattle.t_spill_rules.specs.Spill.{lows}
use Rattle.t_spill_laws.proofs.Lows.{six_fit}
use Rattle.t_spill_laws.proofs.Wholes.{whole}
use Rattle.t_spill_laws.proofs.programs_are_whole.Goals as goal

pub returns : goal.returns
returns c = λ k P h. whole (lows k) P (six_fit k h)
