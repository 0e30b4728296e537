-- Places of names.
use Rattle.std.proofs.Common.{◌≡◌, ℕ, zero, suc, ◌+◌, ◌-◌, ◌<◌, ◌≤◌, [], ◌∷◌, refl, ap, ◌∙◌, arith}
use Rattle.calc_core.specs.Ends.{under}
use Rattle.calc_core.specs.Levels.{level_of}
use Rattle.calc_core.proofs.Levels.{level_below}
use Rattle.c_rules.specs.Know as W

pub level_in : (d i : ℕ) → i < d → d - 1 - i ≡ level_of d i
level_in d i h = omega (arith, h, level_below d i h)

pub level_out : (d i : ℕ) → d ≤ i → 0 ≡ level_of d i
level_out zero i h = refl
level_out (suc d) zero h = absurd (omega (arith, h))
level_out (suc d) (suc i) h = level_out d i (omega (arith, h))

pub under_in : (n : ℕ) (r : ℕ → ℕ) (i : ℕ) → i < n → i ≡ under n r i
under_in zero r i h = absurd (omega (arith, h))
under_in (suc n) r zero h = refl
under_in (suc n) r (suc i) h = ap suc (under_in n r i (omega (arith, h)))

pub under_out : (n : ℕ) (r : ℕ → ℕ) (i : ℕ) → n ≤ i → n + r (i - n) ≡ under n r i
under_out zero r i h =
    (let q : 0 + r (i - 0) ≡ r (i - 0) = omega arith in q) ∙ ap r (let q : i - 0 ≡ i = omega arith in q)
under_out (suc n) r zero h = absurd (omega (arith, h))
under_out (suc n) r (suc i) h =
    ap (λ j. suc n + r j) (let q : suc i - suc n ≡ i - n = omega arith in q)
    ∙ (let q : suc n + r (i - n) ≡ suc (n + r (i - n)) = omega arith in q)
    ∙ ap suc (under_out n r i (omega (arith, h)))

pub list_in : (td b i : ℕ) → b ≤ i → level_of td (i - b) ∷ [] ≡ W.level_list td b i
list_in td zero i h = ap (λ j. level_of td j ∷ []) (let q : i - 0 ≡ i = omega arith in q)
list_in td (suc b) zero h = absurd (omega (arith, h))
list_in td (suc b) (suc i) h =
    ap (λ j. level_of td j ∷ []) (let q : suc i - suc b ≡ i - b = omega arith in q) ∙ list_in td b i (omega (arith, h))

pub list_out : (td b i : ℕ) → i < b → W.level_list td b i ≡ []
list_out td zero i h = absurd (omega (arith, h))
list_out td (suc b) zero h = refl
list_out td (suc b) (suc i) h = list_out td b i (omega (arith, h))
