-- Names by their places.
use Rattle.std.proofs.Common.{◌≡◌, ◌<◌, ◌≤◌, ℕ, zero, suc, ◌+◌, ◌-◌, List, [], ◌∷◌, ◌++◌, Some}
use Rattle.std.proofs.Common.{None, refl, ap, length, arith, get_or}
use Rattle.std.specs.Prelude.{slice_get}
use Rattle.h_terms.specs.H.{block_at}
use Rattle.h_terms.specs.declared.node.HBlock.{HBlock}
use Rattle.h_terms.specs.Nodes.{h_block, h_blocks}
use Rattle.a_pass.specs.Scope.{onto}

pub onto_push : {X Y : Type 0} (f : X → Y) (ys : List Y) (xs : List X) (x : X) →
    onto f ys (xs ++ x ∷ []) ≡ f x ∷ onto f ys xs
onto_push f ys [] x = refl
onto_push f ys (z ∷ xs) x = onto_push f (f z ∷ ys) xs x

past : {X Y : Type 0} (f : X → Y) (ys : List Y) (xs : List X) (i j : ℕ) → i ≡ j + length xs →
    slice_get (onto f ys xs) i ≡ slice_get ys j
past f ys [] i j h = ap (slice_get ys) (omega (arith, h))
past f ys (x ∷ xs) i j h = past f (f x ∷ ys) xs i (suc j) (omega (arith, h))

pub nth_in : {X Y : Type 0} (f : X → Y) (ys : List Y) (xs : List X) (i k : ℕ) (d : X) → k + suc i ≡ length xs →
    slice_get (onto f ys xs) i ≡ Some (f (get_or xs k d))
nth_in f ys [] i k d h = absurd (omega (arith, h))
nth_in f ys (x ∷ xs) i zero d h = past f (f x ∷ ys) xs i 0 (omega (arith, h))
nth_in f ys (x ∷ xs) i (suc k) d h = nth_in f (f x ∷ ys) xs i k d (omega (arith, h))

pub nth_out : {X Y : Type 0} (f : X → Y) (xs : List X) (i : ℕ) → length xs ≤ i → slice_get (onto f [] xs) i ≡ None
nth_out f xs i h = past f [] xs i (i - length xs) (omega (arith, h))

pub block_in : (ks : List HBlock) (l : ℕ) (d : HBlock) → l < length ks →
    block_at (h_blocks ks) l ≡ Some (h_block (get_or ks l d))
block_in [] l d h = absurd (omega (arith, h))
block_in (k ∷ ks) zero d h = refl
block_in (k ∷ ks) (suc l) d h = block_in ks l d (omega (arith, h))

pub block_out : (ks : List HBlock) (l : ℕ) → length ks ≤ l → block_at (h_blocks ks) l ≡ None
block_out [] l h = refl
block_out (k ∷ ks) zero h = absurd (omega (arith, h))
block_out (k ∷ ks) (suc l) h = block_out ks l (omega (arith, h))
