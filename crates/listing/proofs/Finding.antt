-- Whether one of a list is such, by a look at each in turn.
use Rattle.std.proofs.Common.{◌≡◌, ◌∙◌, ◌<◌, ◌≤◌, ℕ, suc, ◌+◌, List, [], ◌∷◌, length, get_or, drop, refl, sym, ap}
use Rattle.std.proofs.Common.{subst, Bool, true, false, ◌||◌, arith, add-one, drop-cons}
use Rattle.std.proofs.Math.ListN.{drop_of_length-le}
use Rattle.idx_core.specs.declared.span.Span.{Span}
use Rattle.t_terms.specs.declared.block.Block.{Block}
use Rattle.t_terms.specs.Read.{spanned_blocks}
use Rattle.listing.specs.Before.{is_at, in_first}

module _ {A : Type 0} (any : List A → Bool) (one : A → Bool)
    (more : (x : A) (xs : List A) → any (x ∷ xs) ≡ (one x || any xs))
  where
    split : (xs : List A) (i : ℕ) (x : A) → i < length xs → x ≡ get_or xs i x → drop i xs ≡ x ∷ drop (suc i) xs
    split xs i x lt is = drop-cons xs i x lt ∙ ap (λ (y : A). y ∷ drop (suc i) xs) (sym is)

    pub found : (xs : List A) (i : ℕ) (x : A) → i < length xs → x ≡ get_or xs i x → any xs ≡ any (drop i xs) →
        one x ≡ true → true ≡ any xs
    found xs i x lt is same holds =
        sym
        (same ∙ ap any (split xs i x lt is) ∙ more x (drop (suc i) xs)
        ∙ ap (λ (b : Bool). b || any (drop (suc i) xs)) holds)

    pub passed : (xs : List A) (i : ℕ) (x : A) → i < length xs → x ≡ get_or xs i x → any xs ≡ any (drop i xs) →
        one x ≡ false → any xs ≡ any (drop (i + 1) xs)
    passed xs i x lt is same fails =
        subst (λ k. any xs ≡ any (drop k xs)) (sym (add-one i))
        (same ∙ ap any (split xs i x lt is) ∙ more x (drop (suc i) xs)
        ∙ ap (λ (b : Bool). b || any (drop (suc i) xs)) fails)

    pub ended : (xs : List A) (i : ℕ) → length xs ≤ i → any xs ≡ any (drop i xs) → any [] ≡ false → false ≡ any xs
    ended xs i le same none = sym (same ∙ ap any (drop_of_length-le xs le) ∙ none)

-- the label of the first block
pub first_some : (place : Span) (xs : List Block) (x : Block) (r : Bool) → 0 < length xs → x ≡ get_or xs 0 x →
    r ≡ is_at place x.name → r ≡ in_first place (spanned_blocks xs)
first_some place [] x r lt is e = absurd (omega (arith, lt))
first_some place (y ∷ ys) x r lt is e = e ∙ ap (λ (z : Block). is_at place z.name) is

pub first_none : (place : Span) (xs : List Block) → length xs ≤ 0 → false ≡ in_first place (spanned_blocks xs)
first_none place [] le = refl
first_none place (y ∷ ys) le = absurd (omega (arith, le))
