-- Digits of a number, the first one first.
use Rattle.std.proofs.Common.{◌≡◌, ℕ, zero, suc, ◌+◌, ◌*◌, ◌/◌, ◌%◌, ◌<◌, ◌^◌, List, [], ◌∷◌, ◌++◌}
use Rattle.std.proofs.Common.{refl, sym, ap, ap₂, ◌∙◌, arith}
use Rattle.std.specs.Prelude.{decimal}
use Rattle.std.proofs.lemmas.Fmt.{decimal_digit, decimal_step}

-- what is written of a number whose leading digit is not 0
abbrev pub so_far : ℕ → List ℕ
so_far zero = []
so_far (suc v) = decimal (suc v)

-- one digit more
pub digit_more : (v d : ℕ) → d < 10 → 10 * v + d < 2 ^ 64 → so_far v ++ ((48 + d) ∷ []) ≡ decimal (10 * v + d)
digit_more zero d lt small =
    let same : d ≡ 10 * 0 + d = omega arith in
    sym (decimal_digit d lt) ∙ ap decimal same
digit_more (suc v) d lt small =
    let n = 10 * suc v + d in
    let front : (10 * suc v + d) / 10 ≡ suc v = omega (arith, lt) in
    let last : (10 * suc v + d) % 10 ≡ d = omega (arith, lt) in
    sym (decimal_step n (omega arith) small
    ∙ ap₂ (λ x y. decimal x ++ ((48 + y) ∷ [])) front last)

pub so_far_some : (v : ℕ) → 0 < v → so_far v ≡ decimal v
so_far_some zero lt = absurd (omega (arith, lt))
so_far_some (suc v) lt = refl
