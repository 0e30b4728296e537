-- Numbers that a test compared.
use Rattle.std.proofs.Common.{◌≡◌, ◌<◌, ◌∙◌, ◌==◌, ℕ, zero, suc, Bool, true, false, sym, arith, ⊎_elim}
use Rattle.std.specs.Ordering.{nat_cmp}
use Rattle.std.specs.Cmp.{nat_cmp_is}
use Rattle.std.specs.declared.cmp.Ordering.TheVariants.{Less, Equal, Greater}
use Rattle.std.proofs.lemmas.Bool.{cases_order}

pub before : (x y : ℕ) → nat_cmp x y ≡ Less → x < y
before x y e =
    ⊎_elim
    (λ (same : x ≡ y). let no : Equal ≡ Less = nat_cmp_is x y Equal same ∙ e in cc)
    (⊎_elim (λ (lt : x < y). lt) (λ (gt : y < x). let no : Greater ≡ Less = nat_cmp_is x y Greater gt ∙ e in cc))
    (cases_order x y)

pub not_empty : (n : ℕ) (b : Bool) → b ≡ (n == 0) → b ≡ false → 0 < n
not_empty zero b e f = let no : true ≡ false = sym e ∙ f in cc
not_empty (suc n) b e f = omega arith
