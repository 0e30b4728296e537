-- Typing with a property is typing with any weaker one.
use Rattle.std.proofs.Common.{ℕ, ◌≤◌, [], arith}
use Rattle.calc_core.specs.Typing.{NoLabels}
use Rattle.calc_core.proofs.TypedWith.{weaker_t}
use Rattle.c_terms.specs.C.{CVal, CVar, CInt, CTuple, CCode, CApply, CPack, CVals, NoCVals, MoreCVals, CDecl, CName}
use Rattle.c_terms.specs.C.{CProj, CArith, CUnpack, CCell, CGet, CSet, CTm, CLet, CCall, CIf, CHalt}
use Rattle.c_terms.specs.Each.{CTypedWith}
use Rattle.c_terms.specs.Reach.{CWithin}
use Rattle.c_terms.specs.Size.{CSmall_v, CSmall_vs, CSmall_d, CSmall_t}
use Rattle.c_terms.specs.Bound.{CFits}

pub within_more : (N M R S B C : ℕ) (t : CTm) → N ≤ M → R ≤ S → B ≤ C → CTypedWith (CWithin N R B) 0 [] t →
    CTypedWith (CWithin M S C) 0 [] t
within_more N M R S B C t x y z h =
    weaker_t (CWithin N R B) (CWithin M S C)
    (λ n t h. (omega (arith, h.0, x), omega (arith, h.1, y), omega (arith, h.2, z))) NoLabels t 0 [] h

-- bodies that are small are at most as large as more
module _ (M N : ℕ) (le : M ≤ N) where
  mutual
    small_v : (v : CVal) → CSmall_v M v → CSmall_v N v
    small_v (CVar i) h = tt
    small_v (CInt n) h = tt
    small_v (CTuple vs) h = small_vs vs h
    small_v (CCode owes args body) h = (omega (arith, h.0, le), small_t body h.1)
    small_v (CApply v ts) h = small_v v h
    small_v (CPack hid v s) h = small_v v h

    small_vs : (vs : CVals) → CSmall_vs M vs → CSmall_vs N vs
    small_vs NoCVals h = tt
    small_vs (MoreCVals v vs) h = (small_v v h.0, small_vs vs h.1)

    small_d : (d : CDecl) → CSmall_d M d → CSmall_d N d
    small_d (CName v) h = small_v v h
    small_d (CProj i v) h = small_v v h
    small_d (CArith op v w) h = (small_v v h.0, small_v w h.1)
    small_d (CUnpack v) h = small_v v h
    small_d (CCell v) h = small_v v h
    small_d (CGet v) h = small_v v h
    small_d (CSet v w) h = (small_v v h.0, small_v w h.1)

    pub small_t : (t : CTm) → CSmall_t M t → CSmall_t N t
    small_t (CLet d t) h = (small_d d h.0, small_t t h.1)
    small_t (CCall f ts vs) h = (small_v f h.0, small_vs vs h.1)
    small_t (CIf v t u) h = (small_v v h.0, small_t t h.1, small_t u h.2)
    small_t (CHalt v) h = small_v v h

pub fits_more : (N M R S : ℕ) (t : CTm) → N ≤ M → R ≤ S → CFits N R t → CFits M S t
fits_more N M R S t le re h = (
  within_more N M R S N M t le re le h.0,
  (omega (arith, h.1.0, le), small_t N M le t h.1.1),
  omega (arith, h.2, le),
)
