-- How runs of the inner calculi end, and numbers under more names.
use Rattle.std.specs.Prelude.{ℕ, zero, suc, ℤ, Bool, true, false, List, [], ◌∷◌}

-- how a run ends
pub data End : Type 0 where
  Halted : (i : ℤ) → End
  Spent : End
  Stuck : End

-- how it ends, and the codes that it entered, by their numbers
pub record Result : Type 0 where
  pub end : End
  pub entered : List ℕ

abbrev pub stops : End → Result
stops e = record { end = e; entered = [] }

abbrev pub pick : Bool → Result → Result → Result
pick true r s = r
pick false r s = s

abbrev pub enters : ℕ → Result → Result
enters b r = record { end = r.end; entered = b ∷ r.entered }

-- index i as it stands under n more names
abbrev pub lift : ℕ → ℕ → ℕ
lift zero i = i
lift (suc n) i = suc (lift n i)

-- a renaming under n more names
abbrev pub under : ℕ → (ℕ → ℕ) → ℕ → ℕ
under zero r i = r i
under (suc n) r zero = zero
under (suc n) r (suc i) = suc (under n r i)

abbrev pub after_one : Bool → ℕ → ℕ
after_one true o = suc o
after_one false o = o

-- a call that gives as many types and values as the code takes, or is stuck
abbrev pub if_fits : Bool → Result → Result
if_fits true r = r
if_fits false r = stops Stuck
