-- What a variable becomes.
use Rattle.std.proofs.Common.{◌≡◌, ◌<◌, ℕ, zero, suc, ◌⊎◌, inl, inr, refl, ap, arith}
use Rattle.h_pass.specs.Hoist.{Code, Near, Nobody, Own, Self, deeper, spot}

-- the names in scope of a closed term: in a code's body its own name is one more
abbrev pub deep : Own → ℕ → ℕ
deep Nobody d = d
deep (Code b) d = suc d

pub deep_suc : (own : Own) (d : ℕ) → deep own (suc d) ≡ suc (deep own d)
deep_suc Nobody d = refl
deep_suc (Code b) d = refl

pub near : (own : Own) (d i : ℕ) → i < d → spot own d i ≡ Near i
near own zero i lt = absurd (omega (arith, lt))
near own (suc d) zero lt = refl
near own (suc d) (suc i) lt = ap deeper (near own d i (omega (arith, lt)))

pub self : (b d : ℕ) → spot (Code b) d d ≡ Self b
self b zero = refl
self b (suc d) = ap deeper (self b d)

pub first_or : (d i : ℕ) → i < suc d → (i < d) ⊎ (i ≡ d)
first_or zero zero lt = inr refl
first_or zero (suc i) lt = absurd (omega (arith, lt))
first_or (suc d) zero lt = inl (omega arith)
first_or (suc d) (suc i) lt = up (first_or d i (omega (arith, lt)))
  where
    up : (i < d) ⊎ (i ≡ d) → (suc i < suc d) ⊎ (suc i ≡ suc d)
    up (inl h) = inl (omega (arith, h))
    up (inr h) = inr (ap suc h)
