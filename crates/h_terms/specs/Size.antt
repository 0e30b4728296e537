-- The size of a hoisted term, types aside, and how many choices stand in it.
use Rattle.std.specs.Prelude.{ℕ, ◌+◌, ◌≤◌, List, [], ◌∷◌}
use Rattle.c_terms.specs.C.{ccount}
use Rattle.h_terms.specs.H.{HBlk, HBlks, HTm, HLet, HCall, HIf, HHalt}
pub use Rattle.calc_core.specs.Size.{size_v as hsize_v, size_vs as hsize_vs, size_d as hsize_d, size_t as hsize_t}

-- each body, with its parameters, is at most so large
abbrev pub HAllSmall : ℕ → List HBlk → Type 0
HAllSmall M [] = Unit {0}
HAllSmall M (x ∷ xs) = (ccount x.args + hsize_t x.body ≤ M) × HAllSmall M xs

abbrev pub HSmall : ℕ → HBlks → HTm → Type 0
HSmall M ks t = HAllSmall M ks × (hsize_t t ≤ M)

-- how many choices stand in a term, and in all blocks
abbrev pub hifs_t : HTm → ℕ
hifs_t (HLet d t) = hifs_t t
hifs_t (HCall f ts vs) = 0
hifs_t (HIf v t u) = 1 + hifs_t t + hifs_t u
hifs_t (HHalt v) = 0

abbrev pub all_hifs : List HBlk → ℕ
all_hifs [] = 0
all_hifs (x ∷ xs) = hifs_t x.body + all_hifs xs
