-- Runs of calls, and ends that are not stuck.
use Rattle.std.proofs.Common.{◌≡◌, Bool, true, false, refl}
use Rattle.calc_core.specs.Ends.{End, Halted, Spent, Stuck, Result, if_fits}

pub fits_step : (k : Bool) (r q : Result) → (k ≡ true → r ≡ q) → if_fits k r ≡ if_fits k q
fits_step true r q f = f refl
fits_step false r q f = refl

-- not stuck
abbrev pub Fine : End → Type 0
Fine (Halted i) = Unit {0}
Fine Spent = Unit {0}
Fine Stuck = ⊥

pub fine : (e : End) → (e ≡ Stuck → ⊥) → Fine e
fine (Halted i) h = tt
fine Spent h = tt
fine Stuck h = h refl

-- a call that fits is fine where what it does is
pub fits_fine : (k : Bool) (r : Result) → k ≡ true → Fine r.end → Fine (if_fits k r).end
fits_fine true r e f = f
fits_fine false r e f = absurd cc
