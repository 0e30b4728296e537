-- Typing with a property is typing with any weaker one.
use Rattle.std.proofs.Common.{◌≤◌, ℕ, [], ◌∷◌, arith}
use Rattle.calc_core.proofs.TypedWith.{all_weaker, weaker_t}
use Rattle.c_terms.specs.C.{CTy}
use Rattle.c_terms.specs.Each.{CProp}
use Rattle.c_terms.specs.Reach.{CWithin}
use Rattle.c_terms.specs.Typing.{cargs_onto}
use Rattle.h_terms.specs.Bound.{HFits}
use Rattle.h_terms.specs.Each.{AllTypedWith, HProgramWith}
use Rattle.h_terms.specs.H.{HBlks, HTm}
use Rattle.h_terms.specs.Size.{HAllSmall}
use Rattle.h_terms.specs.Typing.{BlockHas}

module _ (P Q : CProp) (f : (n : ℕ) (t : CTy) → P n t → Q n t) (ks : HBlks) where
  more_blocks : (xs : HBlks) → AllTypedWith P ks xs → AllTypedWith Q ks xs
  more_blocks [] h = tt
  more_blocks (x ∷ xs) h = (
    (
      h.0.0,
      all_weaker P Q f x.owes x.args h.0.1,
      weaker_t P Q f (BlockHas ks) x.body x.owes (cargs_onto x.args []) h.0.2,
    ),
    more_blocks xs h.1,
  )

  more_program : (t : HTm) → HProgramWith P ks t → HProgramWith Q ks t
  more_program t h = (more_blocks ks h.0, weaker_t P Q f (BlockHas ks) t 0 [] h.1)

pub within_more : (N M R S B C : ℕ) (ks : HBlks) (t : HTm) → N ≤ M → R ≤ S → B ≤ C → HProgramWith (CWithin N R B) ks t →
    HProgramWith (CWithin M S C) ks t
within_more N M R S B C ks t x y z h =
    more_program (CWithin N R B) (CWithin M S C)
    (λ n t h. (omega (arith, h.0, x), omega (arith, h.1, y), omega (arith, h.2, z))) ks t h

small_more : (N M : ℕ) (xs : HBlks) → N ≤ M → HAllSmall N xs → HAllSmall M xs
small_more N M [] le h = tt
small_more N M (x ∷ xs) le h = (omega (arith, h.0, le), small_more N M xs le h.1)

pub fits_more : (N M R S : ℕ) (ks : HBlks) (t : HTm) → N ≤ M → R ≤ S → HFits N R ks t → HFits M S ks t
fits_more N M R S ks t le ge h = (
  within_more N M R S N M ks t le ge le h.0,
  (small_more N M ks le h.1.0, omega (arith, h.1.1, le)),
  omega (arith, h.2, le),
)
