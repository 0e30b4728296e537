-- What a line owes after a token, as the code puts it together.
use Rattle.std.proofs.Common.{◌≡◌, ◌<◌, ◌≤◌, ℕ, suc, ◌+◌, List, [], ◌∷◌, ◌++◌, drop, get_or, length, refl, sym, ◌∙◌, ap}
use Rattle.std.proofs.Common.{append_assoc, add-one, drop-cons}
use Rattle.std.proofs.Common.{Option, Some, None, Bool, true, false, if◌then◌else◌}
use Rattle.std.proofs.lemmas.List.{append-nil}
use Rattle.std.proofs.Math.ListN.{drop_of_length-le}
use Rattle.std.specs.Borrow.{Bor}
use Rattle.text_core.specs.Table.{then_more}
use Rattle.talc_wanted.specs.declared.language.Sym.{Sym}
use Rattle.talc_wanted.specs.Wanted.{lent}
use Rattle.talc_wanted.specs.Owing.{Owes, from_top, first_or, row_in, after_in, IsPut, IsRow}

-- the last first, twice
pub top_append : {A : Type 0} (a b : List A) → from_top (a ++ b) ≡ from_top b ++ from_top a
top_append [] b = sym (append-nil (from_top b))
top_append (x ∷ a) b = ap (λ t. t ++ x ∷ []) (top_append a b) ∙ append_assoc (from_top b) (from_top a) (x ∷ [])

pub top_top : {A : Type 0} (a : List A) → from_top (from_top a) ≡ a
top_top [] = refl
top_top (x ∷ a) = top_append (from_top a) (x ∷ []) ∙ ap (λ t. x ∷ t) (top_top a)

pub no_more : {A : Type 0} (p : Option (List A)) → p ≡ then_more p []
no_more None = refl
no_more (Some r) = ap (λ t. Some t) (sym (append-nil r))

more_twice : {A : Type 0} (p : Option (List A)) (a b : List A) →
    then_more (then_more p (from_top b)) (from_top a) ≡ then_more p (from_top (a ++ b))
more_twice None a b = refl
more_twice (Some r) a b =
    ap (λ t. Some t) (append_assoc r (from_top b) (from_top a) ∙ ap (λ t. r ++ t) (sym (top_append a b)))

both_parts : {A : Type 0} (old row new : List A) → new ≡ old ++ row →
    ◌≡◌ {A = Option (List A)} (Some (from_top row ++ from_top old)) (Some (from_top new))
both_parts old row new n = ap (λ t. Some t) (sym (top_append old row) ∙ ap (λ t. from_top t) (sym n))

-- the line's own row is put onto what is owed behind it, if it has one
pub own_row : {A : Type 0} (x p : Option (List A)) (old new : List A) (b : Bool) →
    x ≡ then_more p (from_top old) → IsPut p old new b → IsRow x new b
own_row x p old new true e (row, q, n) =
    e ∙ (ap (λ t. then_more t (from_top old)) q ∙ both_parts old row new n)
own_row x p old new false e (q, n) = e ∙ ap (λ t. then_more t (from_top old)) q

-- one more of a list that the code has by reference
pub lent_next : {A B X : Type 0} (xs : List (A × B × Bor X)) (i : ℕ) (it : A × B × Bor X) → i < length xs →
    it ≡ get_or xs i it → lent (drop i xs) ≡ (it.0, it.1, it.2.now) ∷ lent (drop (i + 1) xs)
lent_next xs i it h e =
    ap (λ s. lent s) (drop-cons xs i it h)
    ∙ (ap (λ x. (x.0, x.1, x.2.now) ∷ lent (drop (suc i) xs)) (sym e)
    ∙ ap (λ n. (it.0, it.1, it.2.now) ∷ lent (drop n xs)) (sym (add-one i)))

module _ {C L K T : Type 0} (o : Owes C L K T) (x : Option (List (Sym C L))) (c : T) where
  -- after some of the lines that go on as others do, the line is another, and this is owed behind it
  abbrev pub Now : List (L × L × Bor (List (Sym C L))) → ℕ → L → List (Sym C L) → Type 0
  Now others i now row = x ≡ then_more (after_in o (lent (drop i others)) now c) (from_top row)

  pub last_row : (others : List (L × L × Bor (List (Sym C L)))) (i : ℕ) (now : L) (row new : List (Sym C L))
      (b : Bool) → Now others i now row → length others ≤ i → IsPut (row_in o o.rows now c) row new b → IsRow x new b
  last_row others i now row new b h f =
      own_row x (row_in o o.rows now c) row new b
      (h ∙ ap (λ os. then_more (after_in o (lent os) now c) (from_top row)) (drop_of_length-le others f))

  module _ (others : List (L × L × Bor (List (Sym C L)))) (i : ℕ) (it : L × L × Bor (List (Sym C L))) (now : L)
      (row : List (Sym C L)) (h : Now others i now row) (f : i < length others) (is : it ≡ get_or others i it) where
    -- what the other line owes, and more
    abbrev behind : Option (List (Sym C L))
    behind = after_in o (lent (drop (i + 1) others)) it.1 c

    abbrev further : Option (List (Sym C L))
    further = then_more behind (from_top it.2.now)

    same_line : true ≡ o.same it.0 now →
        x ≡ then_more (first_or (row_in o o.rows now c) further) (from_top row)
    same_line s =
        h
        ∙ (ap (λ os. then_more (after_in o os now c) (from_top row)) (lent_next others i it f is)
        ∙ ap (λ b. then_more (if b then first_or (row_in o o.rows now c) further
        else after_in o (lent (drop (i + 1) others)) now c) (from_top row)) (sym s))

    pub own_first : (new : List (Sym C L)) (b : Bool) → true ≡ o.same it.0 now →
        IsPut (row_in o o.rows now c) row new b → b ≡ true → IsRow x new true
    own_first new true s (r, q, n) t =
        same_line s ∙ (ap (λ p. then_more (first_or p further) (from_top row)) q ∙ both_parts row r new n)
    own_first new false s p t = absurd (cc)

    pub other_next : (kept new : List (Sym C L)) (b : Bool) → true ≡ o.same it.0 now →
        IsPut (row_in o o.rows now c) row kept b → b ≡ false → new ≡ kept ++ it.2.now →
        Now others (i + 1) it.1 new
    other_next kept new true s p t n = absurd (cc)
    other_next kept new false s (q, k) t n =
        same_line s
        ∙ (ap (λ p. then_more (first_or p further) (from_top row)) q
        ∙ (more_twice behind row it.2.now
        ∙ ap (λ t. then_more behind (from_top t)) (sym (n ∙ ap (λ t. t ++ it.2.now) k))))

    pub not_this : false ≡ o.same it.0 now → Now others (i + 1) now row
    not_this s =
        h
        ∙ (ap (λ os. then_more (after_in o os now c) (from_top row)) (lent_next others i it f is)
        ∙ ap (λ b. then_more (if b then first_or (row_in o o.rows now c) further
        else after_in o (lent (drop (i + 1) others)) now c) (from_top row)) (sym s))
