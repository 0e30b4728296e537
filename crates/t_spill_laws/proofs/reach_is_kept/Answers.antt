use Rattle.t_spill_rules.specs.Spill.{lows}
use Rattle.t_spill_laws.proofs.Reached.{within_twenty}
use Rattle.t_spill_laws.proofs.reach_is_kept.Goals as goal

pub returns : goal.returns
returns c = λ k P h. within_twenty (lows k) P
