-- How often a generated block may be entered for the entries of the allocated blocks.
use Rattle.std.specs.Prelude.{◌≡◌, ℕ, zero, suc, ◌+◌, ◌≤◌, ◌<◌, ◌⊎◌, ◌==◌, List, [], ◌∷◌, length, Bool, true, false}
use Rattle.std.specs.Prelude.{Option, Some, None, slice_get}
use Rattle.a_terms.specs.Tree.{ATm, ABlk, AProg}
use Rattle.a_terms.specs.Meaning.{Result, Halted, Spent, Wrong}
use Rattle.a_terms.specs.Bound.{thirds}

-- 1 where it holds
abbrev pub one : Bool → ℕ
one true = 1
one false = 0

-- how often k stands in a list
abbrev pub count : ℕ → List ℕ → ℕ
count k [] = 0
count k (x ∷ xs) = one (k == x) + count k xs

-- the number of the first third part of block l
abbrev pub first_of : List ABlk → ℕ → ℕ → ℕ
first_of [] at l = at
first_of (b ∷ bs) at zero = at
first_of (b ∷ bs) at (suc l) = first_of bs (at + thirds b.body) l

-- how often k stands among n numbers from b on
abbrev pub times_among : ℕ → ℕ → ℕ → ℕ
times_among k b zero = 0
times_among k b (suc n) = one (k == b) + times_among k (suc b) n

-- how often block k can be entered for one entry of the allocated block l
abbrev pub share_of : ℕ → ℕ → ℕ → Option ABlk → ℕ
share_of k l first None = 0
share_of k l first (Some b) = one (k == suc l) + times_among k first (thirds b.body)

-- the same of a program's blocks, whose first third part is block at
abbrev pub share : List ABlk → ℕ → ℕ → ℕ → ℕ
share bs at k l = share_of k l (first_of bs at l) (slice_get bs l)

-- and for these entries, with as many for the main term
abbrev pub credit : List ABlk → ℕ → ℕ → ℕ → List ℕ → ℕ
credit bs at k main [] = main
credit bs at k main (l ∷ log) = share bs at k l + credit bs at k main log

-- the blocks entered, the last one first
abbrev pub log_of : Result → List ℕ
log_of (Halted i log) = log
log_of (Spent log) = log
log_of (Wrong log) = log

-- block k is made of the allocated block l
pub record MadeOf (bs : List ABlk) (at k l : ℕ) (b : ABlk) : Type 0 where
  pub there : slice_get bs l ≡ Some b
  pub own : (k ≡ suc l) ⊎ ((first_of bs at l ≤ k) × (k < first_of bs at l + thirds b.body))

-- the number of the first third part of the blocks, after those of the main term
abbrev pub first_third : AProg → ATm → ℕ
first_third p main = suc (length p.blocks) + thirds main
