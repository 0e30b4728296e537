-- The lines of a page, one more at a time.
use Rattle.std.proofs.Common.{◌≡◌, ◌<◌, ◌≤◌, ℕ, ◌+◌, List, ◌++◌, length, map, drop, get_or, sym, ap, ap₂, ◌∙◌}
use Rattle.std.proofs.Common.{append_assoc}
use Rattle.std.proofs.lemmas.List.{append-nil, drop_all, drop_more}
use Rattle.f_lexer.specs.declared.token.Token.{Token}
use Rattle.types_page.specs.Page.{line, lines}
use Rattle.types_page.specs.Walk.{binder_of}
use Rattle.types_page.specs.declared.bound.Found.{Found}

module _ (text : List ℕ) (ts : List Token) (xs : List Found) (i : ℕ) where
  pub lines_more : (f : Found) (same : List ℕ) (those : List Token) (old new all : List ℕ) → i < length xs →
      f ≡ get_or xs i f → same ≡ text → those ≡ ts → new ≡ old ++ line same those (binder_of f) →
      old ++ lines text ts (map binder_of (drop i xs)) ≡ all →
      new ++ lines text ts (map binder_of (drop (i + 1) xs)) ≡ all
  lines_more f same those old new all lt is texts tokens made left =
      let after = lines text ts (map binder_of (drop (i + 1) xs)) in
      ap (λ (p : List ℕ). p ++ after)
      (made ∙ ap₂ (λ (t : List ℕ) (us : List Token). old ++ line t us (binder_of f)) texts tokens)
      ∙ append_assoc old (line text ts (binder_of f)) after
      ∙ ap (λ (g : Found). old ++ (line text ts (binder_of g) ++ after)) is
      ∙ sym (ap (λ (ys : List Found). old ++ lines text ts (map binder_of ys)) (drop_more xs i f lt))
      ∙ left

  pub lines_last : (page all : List ℕ) → length xs ≤ i →
      page ++ lines text ts (map binder_of (drop i xs)) ≡ all → page ≡ all
  lines_last page all le left =
      sym (append-nil page)
      ∙ sym (ap (λ (ys : List Found). page ++ lines text ts (map binder_of ys)) (drop_all i xs le))
      ∙ left
