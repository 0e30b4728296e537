-- The first fault of a token list, by the shapes of a grammar and their open constructs alone.
use Rattle.std.specs.Prelude.{◌≡◌, ◌<◌, ℕ, length, slice_index, List, [], ◌∷◌, ◌++◌}

-- a grammar: its tokens and trees, which tokens are a shape for which tree, and, for each token of a shape, how many
-- constructs are open at it
pub record Grammar : Type 1 where
  pub Tok : Type 0
  pub Tree : Type 0
  pub Shape : List Tok → Tree → Type 0
  pub opens : (w : List Tok) (t : Tree) → Shape w t → List ℕ

-- these tokens are a shape
abbrev pub IsShape : (g : Grammar) → List g.Tok → Type 0
IsShape g w = (t : g.Tree) × g.Shape w t

-- they begin one
abbrev pub Begins : (g : Grammar) → List g.Tok → Type 0
Begins g u = (z : List g.Tok) × IsShape g (u ++ z)

-- at the token c after the tokens u, n constructs are open in every shape that begins so
abbrev pub Holds : (g : Grammar) → List g.Tok → g.Tok → ℕ → Type 0
Holds g u c n = (z : List g.Tok) (t : g.Tree) (e : g.Shape ((u ++ c ∷ []) ++ z) t) →
    slice_index (g.opens ((u ++ c ∷ []) ++ z) t e) (length u) ≡ n

-- the tokens up to and with c begin a shape, and more constructs than the limit are open at c
pub record Passes (g : Grammar) (limit : ℕ) (u : List g.Tok) (c : g.Tok) : Type 0 where
  pub begins : Begins g (u ++ c ∷ [])
  pub number : ℕ
  pub holds : Holds g u c number
  pub more : limit < number

abbrev pub NonePasses : (g : Grammar) → ℕ → List g.Tok → Type 0
NonePasses g limit w = (u : List g.Tok) (c : g.Tok) (z : List g.Tok) → w ≡ u ++ c ∷ z → ¬ Passes g limit u c

-- the tokens u before c begin a shape, and with c none
pub record IsUnexpected (g : Grammar) (limit : ℕ) (w u : List g.Tok) (c : g.Tok) (z : List g.Tok) : Type 0 where
  pub place : w ≡ u ++ c ∷ z
  pub before : Begins g u
  pub with_it : ¬ Begins g (u ++ c ∷ [])
  pub within : NonePasses g limit u

-- all tokens begin a shape and are none
pub record IsCutShort (g : Grammar) (limit : ℕ) (w : List g.Tok) : Type 0 where
  pub begins : Begins g w
  pub none : ¬ IsShape g w
  pub within : NonePasses g limit w

-- c is the first token at which the limit is passed
pub record IsPassed (g : Grammar) (limit : ℕ) (w u : List g.Tok) (c : g.Tok) (z : List g.Tok) : Type 0 where
  pub place : w ≡ u ++ c ∷ z
  pub passes : Passes g limit u c
  pub within : NonePasses g limit u
