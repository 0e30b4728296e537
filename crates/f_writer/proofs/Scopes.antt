-- The names that are written: each stands for the number that it is written for.
use Rattle.std.proofs.Common.{◌≡◌, ◌≢◌, ◌<◌, ◌^◌, ℕ, zero, suc, ◌+◌, ◌-◌, List, [], ◌∷◌, ap, ◌∙◌}
use Rattle.std.proofs.Common.{arith, subst, decimal, add-one}
use Rattle.std.proofs.lemmas.Fmt.{decimal_injective}
use Rattle.idx_core.specs.Names.{Name, IsPlace}

-- the names of d levels, all with the first byte b, innermost first
abbrev pub names : ℕ → ℕ → List Name
names b zero = []
names b (suc d) = (b ∷ decimal d) ∷ names b d

abbrev pub value_names : ℕ → List Name
value_names m = names 120 m

abbrev pub type_names : ℕ → List Name
type_names n = names 116 n

pub names_next : (b d : ℕ) → names b (d + 1) ≡ (b ∷ decimal d) ∷ names b d
names_next b d = ap (names b) (add-one d)

pub names_two : (b d : ℕ) → names b (d + 2) ≡ (b ∷ decimal (d + 1)) ∷ ((b ∷ decimal d) ∷ names b d)
names_two b d =
    let e : d + 2 ≡ d + 1 + 1 = omega arith in
    ap (names b) e ∙ (names_next b (d + 1) ∙ ap (λ (ns : List Name). (b ∷ decimal (d + 1)) ∷ ns) (names_next b d))

-- names of two levels differ
differ : (b i j : ℕ) → i < 2 ^ 64 → j < 2 ^ 64 → i ≢ j → (b ∷ decimal i) ≢ (b ∷ decimal j)
differ b i j h k ne e = let r : decimal i ≡ decimal j = cc in ne (decimal_injective i j h k r)

pub in_scope : (b d i : ℕ) → i < d → d < 2 ^ 64 → IsPlace (b ∷ decimal (d - 1 - i)) (names b d) i
in_scope b zero i lt h = absurd (omega arith)
in_scope b (suc d) zero lt h = let e : suc d - 1 - 0 ≡ d = omega arith in ap (λ j. b ∷ decimal j) e
in_scope b (suc d) (suc i) lt h =
    let e : d - 1 - i ≡ suc d - 1 - suc i = omega arith in
    let ne : suc d - 1 - suc i ≢ d = λ q. omega arith in (
      differ b (suc d - 1 - suc i) d (omega arith) (omega arith) ne,
      subst (λ j. IsPlace (b ∷ decimal j) (names b d) i) e (in_scope b d i (omega arith) (omega arith)),
    )
