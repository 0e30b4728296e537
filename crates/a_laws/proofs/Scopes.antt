-- The variables of a typed hoisted term are in scope.
use Rattle.std.proofs.Common.{◌≡◌, ℕ, suc, List, ◌∷◌, length, ap, subst}
use Rattle.calc_core.proofs.NamesIn.{names_t}
use Rattle.a_laws.specs.Allocate.{atypes}
use Rattle.a_laws.specs.Back.{arg_count}
use Rattle.c_terms.specs.C.{CTy, CTys, MoreCTys, NoCTys}
use Rattle.c_terms.specs.Typing.{cargs_onto}
use Rattle.h_terms.specs.H.{HBlks, HTm}
use Rattle.h_terms.specs.Typing.{BlockHas, HTyped}
pub use Rattle.calc_core.specs.NamesIn.{NamesIn_v as InV, NamesIn_vs as InVs, NamesIn as InT}

pub in_t : (ks : HBlks) (n : ℕ) (g : List CTy) (k : ℕ) → length g ≡ k → (t : HTm) → HTyped ks n g t → InT k t
in_t ks n g k e t h = subst (λ d. InT d t) e (names_t (BlockHas ks) t n g h)

pub args_length : (args : CTys) (g : List CTy) (k : ℕ) → length g ≡ k →
    length (cargs_onto args g) ≡ arg_count k (atypes args)
args_length NoCTys g k e = e
args_length (MoreCTys t ts) g k e = args_length ts (t ∷ g) (suc k) (ap suc e)
