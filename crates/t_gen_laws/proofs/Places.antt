-- Where the generated blocks stand.
use Rattle.std.proofs.Common.{◌≡◌, ℕ, zero, suc, ◌+◌, List, [], ◌∷◌, ◌++◌, length, Some, refl, sym, ap, ◌∙◌, subst}
use Rattle.std.proofs.Common.{arith, length-append}
use Rattle.std.specs.Prelude.{slice_get}
use Rattle.a_terms.specs.Tree.{ABlk, AProg, arity}
use Rattle.t_terms.specs.Tree.{TBlock}
use Rattle.a_terms.specs.Typing.{types_of}
use Rattle.t_gen_rules.specs.Gen.{ty_args, block, extras, rows, firsts, seconds}
use Rattle.a_terms.specs.Bound.{thirds}
use Rattle.t_gen_laws.specs.GenLaws.{length_extras}
use Rattle.t_gen_laws.specs.Counting.{first_of}

abbrev pub HasAt : List TBlock → ℕ → List TBlock → Type 0
HasAt P n [] = Unit {0}
HasAt P n (x ∷ xs) = (slice_get P n ≡ Some x) × HasAt P (suc n) xs

pub has_front : (P : List TBlock) (n : ℕ) (a b : List TBlock) → HasAt P n (a ++ b) → HasAt P n a
has_front P n [] b h = tt
has_front P n (x ∷ a) b h = (h.0, has_front P (suc n) a b h.1)

pub has_back : (P : List TBlock) (n m : ℕ) (a b : List TBlock) → m ≡ n + length a → HasAt P n (a ++ b) → HasAt P m b
has_back P n m [] b e h = let x : n ≡ m = omega arith in subst (λ k. HasAt P k b) x h
has_back P n m (y ∷ a) b e h = has_back P (suc n) m a b (omega arith) h.1

has_self : (pre xs : List TBlock) (n : ℕ) → n ≡ length pre → HasAt (pre ++ xs) n xs
has_self pre [] n e = tt
has_self pre (x ∷ xs) n e = (
  at pre n e,
  subst (λ l. HasAt l (suc n) xs) (assoc pre)
      (has_self (pre ++ x ∷ []) xs (suc n) (omega (arith, length-append pre (x ∷ [])))),
)
  where
    at : (pre : List TBlock) (n : ℕ) → n ≡ length pre → slice_get (pre ++ x ∷ xs) n ≡ Some x
    at [] n e = ap (λ k. slice_get (x ∷ xs) k) e
    at (y ∷ pre) zero e = absurd (omega arith)
    at (y ∷ pre) (suc n) e = at pre n (omega arith)

    assoc : (pre : List TBlock) → (pre ++ x ∷ []) ++ xs ≡ pre ++ x ∷ xs
    assoc [] = refl
    assoc (y ∷ pre) = ap (λ l. y ∷ l) (assoc pre)

pub has_all : (xs : List TBlock) → HasAt xs 0 xs
has_all xs = has_self [] xs 0 refl

abbrev pub main_block : ABlk → ℕ → TBlock
main_block b at = block b.owes (ty_args b.args 1) (rows (arity b.args)) at b.body

abbrev pub main_extras : AProg → ABlk → ℕ → List TBlock
main_extras p b at = extras p b.owes (rows (arity b.args)) (types_of b.args []) at b.body

pub length_firsts : (bs : List ABlk) (at : ℕ) → length (firsts bs at) ≡ length bs
length_firsts [] at = refl
length_firsts (b ∷ bs) at = ap suc (length_firsts bs (at + thirds b.body))

pub block_at : (P : List TBlock) (bs : List ABlk) (n at l : ℕ) (b : ABlk) → HasAt P n (firsts bs at) →
    slice_get bs l ≡ Some b → slice_get P (n + l) ≡ Some (main_block b (first_of bs at l))
block_at P [] n at l b h e = cc
block_at P (c ∷ bs) n at zero b h e =
    let z : n ≡ n + 0 = omega arith in
    let same : c ≡ b = cc in
    subst (λ k. slice_get P k ≡ Some (main_block b at)) z (h.0 ∙ ap (λ x. Some (main_block x at)) same)
block_at P (c ∷ bs) n at (suc l) b h e =
    let z : suc n + l ≡ n + suc l = omega arith in
    subst (λ k. slice_get P k ≡ Some (main_block b (first_of bs (at + thirds c.body) l))) z
    (block_at P bs (suc n) (at + thirds c.body) l b h.1 e)

pub extras_at : (P : List TBlock) (p : AProg) (bs : List ABlk) (at l : ℕ) (b : ABlk) → HasAt P at (seconds p bs at) →
    slice_get bs l ≡ Some b → HasAt P (first_of bs at l) (main_extras p b (first_of bs at l))
extras_at P p [] at l b h e = cc
extras_at P p (c ∷ bs) at zero b h e =
    let same : c ≡ b = cc in
    subst (λ x. HasAt P at (main_extras p x at)) same (has_front P at (main_extras p c at) _ h)
extras_at P p (c ∷ bs) at (suc l) b h e =
    let n = length_extras p c.owes (rows (arity c.args)) (types_of c.args []) at c.body in
    extras_at P p bs (at + thirds c.body) l b
    (has_back P at (at + thirds c.body) (main_extras p c at) _ (ap (λ k. at + k) (sym n)) h) e
