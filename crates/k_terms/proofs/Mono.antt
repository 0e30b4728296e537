-- Typing with a property is typing with any weaker one.
use Rattle.std.proofs.Common.{ℕ, ◌≤◌, [], arith}
use Rattle.calc_core.specs.Typing.{NoLabels}
use Rattle.calc_core.proofs.TypedWith.{weaker_t}
use Rattle.k_terms.specs.K.{KTm}
use Rattle.k_terms.specs.Each.{KTypedWith}
use Rattle.k_terms.specs.Reach.{KWithin}
use Rattle.k_terms.specs.Bound.{KFits}

pub within_more : (N M R S B C : ℕ) (t : KTm) → N ≤ M → R ≤ S → B ≤ C → KTypedWith (KWithin N R B) 0 [] t →
    KTypedWith (KWithin M S C) 0 [] t
within_more N M R S B C t x y z h =
    weaker_t (KWithin N R B) (KWithin M S C)
    (λ n t h. (omega (arith, h.0, x), omega (arith, h.1, y), omega (arith, h.2, z))) NoLabels t 0 [] h

pub fits_more : (N M R : ℕ) (t : KTm) → N ≤ M → KFits N R t → KFits M R t
fits_more N M R t le h = (within_more N M R R N M t le (omega arith) le h.0, omega (arith, h.1, le))
