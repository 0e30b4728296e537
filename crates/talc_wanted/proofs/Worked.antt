-- The line of a worked text, to be had by computing.
use Rattle.std.proofs.Common.{ℕ, suc, zero, ◌+◌, List, [], ◌∷◌, drop, length}
use Rattle.idx_core.specs.declared.span.Span.{Span}
use Rattle.text_core.specs.Tokens.{Item, Gap, Spelling, Nothing}

module _ {K T : Type 0} (item : List ℕ → Item K) (token : K → Span → T) where
  -- the tokens of a text of at most n bytes from the place i on
  abbrev tokens_by : (ℕ → List ℕ → List T) → ℕ → List ℕ → Item K → List T
  tokens_by further i s (Gap k) = further (i + k) (drop k s)
  tokens_by further i s (Spelling kind k) =
      token kind (record { start = i; end = i + k }) ∷ further (i + k) (drop k s)
  tokens_by further i s Nothing = []

  abbrev tokens_from : ℕ → ℕ → List ℕ → List T
  tokens_from zero i s = []
  tokens_from (suc n) i [] = []
  tokens_from (suc n) i (b ∷ s) = tokens_by (λ j r. tokens_from n j r) i (b ∷ s) (item (b ∷ s))

  -- the line of the place from one byte to another
  abbrev pub line_by : (List ℕ → Span → List T → List ℕ) → List ℕ → ℕ → ℕ → List ℕ
  line_by wanted_line text start end =
      wanted_line text (record { start = start; end = end }) (tokens_from (length text) 0 text)
