use Rattle.t_spill_rules.specs.Spill.{lows}
use Rattle.t_spill_laws.proofs.Lows.{one_low, six_fit}
use Rattle.t_spill_laws.proofs.Wholes.{whole}
use Rattle.t_spill_laws.proofs.Meaning.{forth, back}
use Rattle.t_spill_laws.proofs.meaning_is_kept.Goals as goal

pub returns : goal.returns
returns c = λ k P h w a f. record {
  forth = forth (lows k) (one_low k h) P w a (whole (lows k) P (six_fit k h) w a f);
  back = back (lows k) (one_low k h) P w a (whole (lows k) P (six_fit k h) w a f);
}
