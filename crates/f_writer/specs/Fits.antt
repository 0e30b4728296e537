-- Terms that can be written: closed, with integers of 64 bits, field numbers that a text can have, and so few names
-- around each form that 64 bits hold their number.
use Rattle.std.specs.Prelude.{ℕ, ◌+◌, ◌<◌, ◌≤◌, ◌≤ℤ◌, pos, negsuc}
use Rattle.idx_core.specs.Over.{BelowAt, IsWord}
use Rattle.f_terms.specs.Ty.{Ty, each}
use Rattle.f_terms.specs.Tm.{Term, MVar, MNum, MFix, MApp, MGen, MInst, MTuple, MProj, MArith, MIf0, MLet, MPack}
use Rattle.f_terms.specs.Tm.{MOpen}
use Rattle.f_terms.specs.Tm.{MRef, MDeref, MAssign, Terms, NoTerms, MoreTerms}

-- the variables of a type inside n type names are bound, and each depth of names in it is a number of 64 bits
abbrev pub TypeFits : ℕ → Ty → Type 0
TypeFits n t = each BelowAt IsWord n t

-- the same of a term, inside n type names and m value names
abbrev mutual
  pub Fits : Term → ℕ → ℕ → Type 0
  Fits (MVar i) n m = i < m
  Fits (MNum z) n m = (negsuc 9223372036854775807 ≤ℤ z) × (z ≤ℤ pos 9223372036854775807)
  Fits (MFix arg res e) n m = TypeFits n arg × TypeFits n res × IsWord (m + 2) × Fits e n (m + 2)
  Fits (MApp f x) n m = Fits f n m × Fits x n m
  Fits (MGen e) n m = IsWord (n + 1) × Fits e (n + 1) m
  Fits (MInst e t) n m = Fits e n m × TypeFits n t
  Fits (MTuple es) n m = AllFit es n m
  Fits (MProj i e) n m = (i ≤ 9223372036854775807) × Fits e n m
  Fits (MArith op a b) n m = Fits a n m × Fits b n m
  Fits (MIf0 c a b) n m = Fits c n m × Fits a n m × Fits b n m
  Fits (MLet a b) n m = Fits a n m × IsWord (m + 1) × Fits b n (m + 1)
  Fits (MPack h e t) n m = TypeFits n h × Fits e n m × TypeFits n t
  Fits (MOpen a b) n m = Fits a n m × IsWord (n + 1) × IsWord (m + 1) × Fits b (n + 1) (m + 1)
  Fits (MRef e) n m = Fits e n m
  Fits (MDeref e) n m = Fits e n m
  Fits (MAssign a b) n m = Fits a n m × Fits b n m

  pub AllFit : Terms → ℕ → ℕ → Type 0
  AllFit NoTerms n m = Unit {0}
  AllFit (MoreTerms e es) n m = Fits e n m × AllFit es n m

-- a term that can be written
abbrev pub CanBeWritten : Term → Type 0
CanBeWritten e = Fits e 0 0
