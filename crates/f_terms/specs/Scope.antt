-- Terms whose names are bound.
use Rattle.std.specs.Prelude.{ℕ, ◌+◌, ◌<◌}
use Rattle.f_terms.specs.Ty.{Below}
use Rattle.f_terms.specs.Tm.{Term, MVar, MNum, MFix, MApp, MGen, MInst, MTuple, MProj, MArith, MIf0, MLet, MPack, MOpen}
use Rattle.f_terms.specs.Tm.{MRef, MDeref, MAssign, Terms, NoTerms}
use Rattle.f_terms.specs.Tm.{MoreTerms}

-- every free type index is less than n, and every free value index less than m
abbrev mutual
  pub InScope : Term → ℕ → ℕ → Type 0
  InScope (MVar i) n m = i < m
  InScope (MNum i) n m = Unit {0}
  InScope (MFix arg res e) n m = Below n arg × Below n res × InScope e n (m + 2)
  InScope (MApp f x) n m = InScope f n m × InScope x n m
  InScope (MGen e) n m = InScope e (n + 1) m
  InScope (MInst e t) n m = InScope e n m × Below n t
  InScope (MTuple es) n m = AllInScope es n m
  InScope (MProj i e) n m = InScope e n m
  InScope (MArith op a b) n m = InScope a n m × InScope b n m
  InScope (MIf0 c a b) n m = InScope c n m × InScope a n m × InScope b n m
  InScope (MLet a b) n m = InScope a n m × InScope b n (m + 1)
  InScope (MPack h e t) n m = Below n h × Below n t × InScope e n m
  InScope (MOpen a b) n m = InScope a n m × InScope b (n + 1) (m + 1)
  InScope (MRef e) n m = InScope e n m
  InScope (MDeref e) n m = InScope e n m
  InScope (MAssign a b) n m = InScope a n m × InScope b n m

  pub AllInScope : Terms → ℕ → ℕ → Type 0
  AllInScope NoTerms n m = Unit {0}
  AllInScope (MoreTerms e es) n m = InScope e n m × AllInScope es n m

-- no index is free
abbrev pub IsClosed : Term → Type 0
IsClosed e = InScope e 0 0
