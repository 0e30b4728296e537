-- One more item of a source.
use Rattle.std.proofs.Common.{◌≡◌, ◌≤◌, ℕ, zero, suc, ◌+◌, ◌-◌, ◌++◌, refl, ap, ◌∙◌, arith}
use Rattle.std.specs.Prelude.{codes}
use Rattle.f_seeds.specs.Source.{item_at, items_to}

pub only : (n : ℕ) → items_to n 0 ≡ item_at n 0
unfolding items_to
only n = refl

next : (n j : ℕ) → items_to n (suc j) ≡ items_to n j ++ codes " + " ++ item_at n (suc j)
unfolding items_to
next n j = refl

pub one_more : (n p : ℕ) → 1 ≤ p → items_to n (p + 1 - 1) ≡ items_to n (p - 1) ++ codes " + " ++ item_at n p
one_more n zero h = absurd (omega arith)
one_more n (suc j) h =
    let a : suc j + 1 - 1 ≡ suc j = omega arith in
    let b : j ≡ suc j - 1 = omega arith in
    ap (λ (m : ℕ). items_to n m) a ∙ (next n j ∙ ap (λ (m : ℕ). items_to n m ++ codes " + " ++ item_at n (suc j)) b)
