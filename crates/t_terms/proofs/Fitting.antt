-- A list of which the first item fits, and the rest does, fits: at a place of the whole.
use Rattle.std.proofs.Common.{◌≡◌, ◌<◌, ◌≤◌, ℕ, ◌+◌, List, [], ◌∷◌, length, drop, get_or, sym, subst}
use Rattle.std.proofs.Math.ListN.{drop_of_length-le}
use Rattle.idx_core.proofs.Lists.{next_item}

module _ {A : Type 0} (S : List A → Type 0) (xs : List A) (i : ℕ) where
  pub at_item : (x : A) → x ≡ get_or xs i x → i < length xs → S (x ∷ drop (i + 1) xs) → S (drop i xs)
  at_item x is lt h = subst S (sym (next_item xs i x is lt)) h

  pub at_end : length xs ≤ i → S [] → S (drop i xs)
  at_end le h = subst S (sym (drop_of_length-le xs le)) h
