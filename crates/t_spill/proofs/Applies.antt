-- One type goes to code.
use Rattle.std.proofs.Common.{ℕ, suc, ◌-◌, ◌≤◌, List, ◌∷◌, length, arith}
use Rattle.idx_core.specs.Over.{IsWord, PutFitsAt}
use Rattle.t_types.specs.Tree.{Ty, TFile, shift, ShiftFits, put_file, each, each_file}
use Rattle.t_spill.specs.Applying.{CanApply}
use Rattle.t_rules.proofs.Depth.{shallow, shallow_shift_fits, inst_put, inst_fits}

pub record Goes (k : ℕ) (f : TFile) (u : Ty) (us : List Ty) : Type 0 where
  pub some : 1 ≤ k
  pub shifts : ShiftFits (k - 1) 0 u
  pub puts : each_file (PutFitsAt each (k - 1) (shift (k - 1) 0 u)) IsWord (k - 1) f
  pub next : CanApply (k - 1) (put_file (k - 1) (shift (k - 1) 0 u) f) us

pub goes : (k : ℕ) (f : TFile) (u : Ty) (us : List Ty) → CanApply k f (u ∷ us) → Goes k f u us
goes k f u us h =
    let len : suc (length us) ≤ k = h.5 in
    let hu = shallow h.0 u h.4.0 in
    let some : 1 ≤ k = omega (arith, len) in
    record {
      some = some;
      shifts = shallow_shift_fits h.0 (k - 1) u (omega (arith, h.1, h.2)) hu;
      puts = inst_fits h.0 k u f some h.2 h.1 hu h.3;
      next = (h.0, h.1, omega (arith, h.2), inst_put h.0 k u f some h.2 h.1 hu h.3, h.4.1, omega (arith, len));
    }
