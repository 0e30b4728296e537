-- The sums of types that are put in one walk.
use Rattle.std.proofs.Common.{ℕ, zero, suc, ◌+◌, ◌-◌, ◌<◌, ◌≤◌, List, [], ◌∷◌, length, get_or, arith}
use Rattle.idx_core.specs.Over.{IsWord}
use Rattle.t_types.specs.Tree.{Ty, IntTy, TFile, each_file}
use Rattle.t_types.specs.WellFormed.{max_names, WellFormedTypes}
use Rattle.t_types.specs.Bounds.{Shallow, OwedAt, OwedBelow, OwedFile}
use Rattle.t_intern.specs.Spread.{SpreadFitsAt}
use Rattle.t_rules.proofs.Depth.{shallow, weaker_file, shallow_shift_fits}

shallow_at : (n : ℕ) (ts : List Ty) (j : ℕ) → j < length ts → WellFormedTypes n ts → Shallow n (get_or ts j IntTy)
shallow_at n [] j l h = absurd (omega (arith, l))
shallow_at n (t ∷ ts) zero l h = shallow n t h.0
shallow_at n (t ∷ ts) (suc j) l h = shallow_at n ts j (omega (arith, l)) h.1

-- and in one walk: its sums
pub spread_fits : (n k : ℕ) (ts : List Ty) (file : TFile) → length ts ≤ k → k ≤ max_names → n ≤ max_names →
    WellFormedTypes n ts → OwedFile n k file → each_file (SpreadFitsAt 0 ts) IsWord (k - length ts) file
spread_fits n k ts file le few names h hf =
    weaker_file (OwedAt n k) (SpreadFitsAt 0 ts) OwedBelow IsWord (0 + k) (k - length ts)
    (λ e i x. λ low high.
    let a = x.1 in
    let within : length ts - 1 - (i - (k - length ts + e)) < length ts = omega (arith, le, low, high) in
    let less = x.2 (omega (arith, le, low, high)) (omega (arith, le, low, high)) in
    shallow_shift_fits n (k - length ts + e - 0) (get_or ts (length ts - 1 - (i - (k - length ts + e))) IntTy)
    (omega (arith, le, less, names)) (shallow_at n ts (length ts - 1 - (i - (k - length ts + e))) within h))
    (λ e x. omega (arith, x, le)) file hf
