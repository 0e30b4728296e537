-- Lists that a loop writes item by item.
use Rattle.std.proofs.Common.{◌≡◌, ◌≤◌, ◌<◌, ℕ, suc, ◌+◌, List, [], ◌∷◌, ◌++◌, length, drop, get_or, sym, ◌∙◌}
use Rattle.std.proofs.Common.{subst, append_assoc, add-one}
use Rattle.std.proofs.lemmas.List.{append-nil}
use Rattle.std.proofs.Math.ListN.{drop_of_length-le}
use Rattle.idx_core.proofs.Lists.{next_item}

-- the texts of items, each by its place, where i stand before them
abbrev pub listed : {A : Type 0} → (ℕ → A → List ℕ) → ℕ → List A → List ℕ
listed item i [] = []
listed item i (x ∷ xs) = item i x ++ listed item (suc i) xs

-- the next item of a list
-- what a loop keeps: the text so far with what is left is the whole. Before item i + k of the list, i items of the text
-- are written
abbrev pub Left : {A : Type 0} → (ℕ → A → List ℕ) → List ℕ → ℕ → ℕ → List A → List ℕ → Type 0
Left item text i k xs whole = text ++ listed item i (drop k xs) ≡ whole

pub left_more : {A : Type 0} (item : ℕ → A → List ℕ) (text next : List ℕ) (i k : ℕ) (xs : List A) (x : A)
    (whole : List ℕ) → x ≡ get_or xs k x → k < length xs → Left item text i k xs whole → next ≡ text ++ item i x →
    Left item next (i + 1) (k + 1) xs whole
left_more item text next i k xs x whole is lt h e =
    let w : text ++ (item i x ++ listed item (suc i) (drop (k + 1) xs)) ≡ whole =
    subst (λ ys. text ++ listed item i ys ≡ whole) (next_item xs k x is lt) h in
    rw (add-one i, e) (append_assoc text (item i x) (listed item (suc i) (drop (k + 1) xs)) ∙ w)

pub left_none : {A : Type 0} (item : ℕ → A → List ℕ) (text : List ℕ) (i k : ℕ) (xs : List A) (whole : List ℕ) →
    Left item text i k xs whole → length xs ≤ k → text ≡ whole
left_none item text i k xs whole h le =
    sym (append-nil text) ∙ subst (λ ys. text ++ listed item i ys ≡ whole) (drop_of_length-le xs le) h
