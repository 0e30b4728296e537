use Rattle.t_spill_rules.specs.Spill.{lows}
use Rattle.t_spill_laws.proofs.Lows.{one_low}
use Rattle.t_spill_laws.proofs.Typed.{kept_types}
use Rattle.t_spill_laws.proofs.types_are_kept.Goals as goal

pub returns : goal.returns
returns c = λ k P h. kept_types (lows k) P (one_low k h)
