-- Packages opened, one in another.
use Rattle.std.proofs.Common.{◌≡◌, ℕ, zero, suc, Bool, true, false, ap, subst}
use Rattle.calc_core.specs.Types.{Ty, IntTy, VarTy, TupleTy, CodeTy, ExistsTy, RefTy}
use Rattle.calc_core.specs.Substitution.{substituted, with_type}

-- t with some of its outer existential types opened is u
abbrev pub OpensBy : ℕ → Ty → Ty → Type 0
OpensBy zero t u = t ≡ u
OpensBy (suc k) t u = (s : Ty) × (h : Ty) × (t ≡ ExistsTy s) × OpensBy k (substituted (with_type h VarTy) s) u

abbrev pub Opens : Ty → Ty → Type 0
Opens t u = (k : ℕ) × OpensBy k t u

abbrev pub is_some : Ty → Bool
is_some IntTy = false
is_some (VarTy i) = false
is_some (TupleTy ts) = false
is_some (CodeTy n ts) = false
is_some (ExistsTy t) = true
is_some (RefTy t) = false

pub opens_plain : (t u : Ty) → is_some t ≡ false → Opens t u → t ≡ u
opens_plain t u e h = go h.0 h.1
  where
    go : (k : ℕ) → OpensBy k t u → t ≡ u
    go zero q = q
    go (suc k) q = let c = ap is_some q.2 in absurd cc

pub opens_some : (t u : Ty) → is_some u ≡ false → Opens (ExistsTy t) u →
    (h : Ty) × Opens (substituted (with_type h VarTy) t) u
opens_some t u e h = go h.0 h.1
  where
    go : (k : ℕ) → OpensBy k (ExistsTy t) u → (x : Ty) × Opens (substituted (with_type x VarTy) t) u
    go zero q = let c = ap is_some q in absurd cc
    go (suc k) q =
        let d : q.0 ≡ t = cc in (q.1, (k, subst (λ z. OpensBy k (substituted (with_type q.1 VarTy) z) u) d q.3))
