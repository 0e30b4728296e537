-- The tokens of a text over any set of tokens: gaps and longest spellings in turn.
use Rattle.std.specs.Prelude.{◌≡◌, ◌≢◌, ◌≤◌, ℕ, ◌+◌, ◌==◌, if◌then◌else◌, List, [], ◌∷◌, ◌++◌, length, drop, true}
use Rattle.std.specs.Prelude.{Option, Some, None}
use Rattle.std.specs.List.{list_all}
use Rattle.text_core.specs.Byte.{space, digit, letter, of_word, of_line, mark, value}

-- What a language fixes: the kinds of its tokens, and what each spelling is.
pub record Tokens : Type 1 where
  pub Kind : Type 0
  pub Token : Type 0
  -- a letter with letters, digits and underscores after it
  pub word : List ℕ → Kind
  -- digits of this value, and `~` with digits of this value after it
  pub plain : ℕ → Kind
  pub negative : ℕ → Kind
  -- the signs of one byte and of two
  pub sign : ℕ → Option Kind
  pub pair : ℕ → ℕ → Option Kind
  -- the bounds on the value of a kind
  pub Keeps : Kind → Type 0
  -- the token of a kind from one place to another
  pub token : Kind → ℕ → ℕ → Token

-- these bytes spell a token of this kind, where bounds are left aside
pub data Spells (g : Tokens) : List ℕ → g.Kind → Type 0 where
  s_word : (b : ℕ) (s : List ℕ) → letter b ≡ true → list_all of_word s ≡ true → Spells g (b ∷ s) (g.word (b ∷ s))
  s_plain : (b : ℕ) (s : List ℕ) → list_all digit (b ∷ s) ≡ true → Spells g (b ∷ s) (g.plain (value (b ∷ s)))
  s_negative : (b : ℕ) (s : List ℕ) → list_all digit (b ∷ s) ≡ true →
      Spells g (126 ∷ (b ∷ s)) (g.negative (value (b ∷ s)))
  s_sign : (b : ℕ) (k : g.Kind) → g.sign b ≡ Some k → Spells g (b ∷ []) k
  s_pair : (b c : ℕ) (k : g.Kind) → g.pair b c ≡ Some k → Spells g (b ∷ (c ∷ [])) k

-- the text ends here, or the line does
abbrev pub EndsLine : List ℕ → Type 0
EndsLine [] = Unit {0}
EndsLine (b ∷ s) = b ≡ 10

-- a gap stands before the bytes r: a space, or a comment up to the end of its line
pub data IsGap : List ℕ → List ℕ → Type 0 where
  g_space : (b : ℕ) {r : List ℕ} → space b ≡ true → IsGap (b ∷ []) r
  g_comment : {c r : List ℕ} → list_all of_line c ≡ true → EndsLine r → IsGap (45 ∷ (45 ∷ c)) r

-- no gap begins at the start of s
abbrev pub NoGap : List ℕ → Type 0
NoGap s = (g r : List ℕ) → s ≡ g ++ r → ¬ IsGap g r

-- u is the longest spelling at the start of u ++ r, bounds left aside
pub record IsLongest (g : Tokens) (u r : List ℕ) (k : g.Kind) : Type 0 where
  pub spells : Spells g u k
  pub longest : (v q : List ℕ) (j : g.Kind) → u ++ r ≡ v ++ q → Spells g v j → length v ≤ length u

-- no spelling begins at the start of s
abbrev pub NoSpelling : Tokens → List ℕ → Type 0
NoSpelling g s = (u r : List ℕ) (k : g.Kind) → s ≡ u ++ r → ¬ Spells g u k

-- a gap or a spelling with its length, or nothing that begins here
pub data Item (K : Type 0) : Type 0 where
  Gap : ℕ → Item K
  Spelling : K → ℕ → Item K
  Nothing : Item K

-- what stands at the start of a text that is not at its end: a gap first, else the longest spelling
pub data Next (g : Tokens) : List ℕ → Item g.Kind → Type 0 where
  n_gap : {u r : List ℕ} → IsGap u r → Next g (u ++ r) (Gap (length u))
  n_spelling : {u r : List ℕ} {k : g.Kind} → NoGap (u ++ r) → IsLongest g u r k →
      Next g (u ++ r) (Spelling k (length u))
  n_nothing : {s : List ℕ} → s ≢ [] → NoGap s → NoSpelling g s → Next g s Nothing

-- the bytes s, which stand from the place i on, are cut into these tokens, which all keep their bounds
pub data Cut (g : Tokens) : ℕ → List ℕ → List g.Token → Type 0 where
  c_end : {i : ℕ} → Cut g i [] []
  c_gap : {i n : ℕ} {s : List ℕ} {w : List g.Token} → Next g s (Gap n) → Cut g (i + n) (drop n s) w → Cut g i s w
  c_token : {i n : ℕ} {k : g.Kind} {s : List ℕ} {w : List g.Token} → Next g s (Spelling k n) → g.Keeps k →
      Cut g (i + n) (drop n s) w →
      Cut g i s (g.token k i (i + n) ∷ w)

-- from the place i with the bytes s after it, the place j with the bytes r after it is reached by gaps and by spellings
-- that keep their bounds
pub data Reaches (g : Tokens) : ℕ → List ℕ → ℕ → List ℕ → Type 0 where
  r_here : {i : ℕ} {s : List ℕ} → Reaches g i s i s
  r_gap : {i n j : ℕ} {s r : List ℕ} → Next g s (Gap n) → Reaches g (i + n) (drop n s) j r → Reaches g i s j r
  r_token : {i n j : ℕ} {k : g.Kind} {s r : List ℕ} → Next g s (Spelling k n) → g.Keeps k →
      Reaches g (i + n) (drop n s) j r → Reaches g i s j r

-- how a text may fail to be cut
pub data Reason : Type 0 where
  -- a byte that begins no token
  NoToken : Reason
  -- a token whose value breaks its bounds
  OutOfRange : Reason

-- what is wrong with what stands next, which has this length
pub data Wrong (g : Tokens) : List ℕ → Reason → ℕ → Type 0 where
  w_none : {s : List ℕ} → Next g s Nothing → Wrong g s NoToken 1
  w_bounds : {s : List ℕ} {k : g.Kind} {n : ℕ} → Next g s (Spelling k n) → ¬ g.Keeps k → Wrong g s OutOfRange n

-- the first fault of a text's tokens: at the place start, which is reached, up to the place end
pub record FirstWrong (g : Tokens) (text : List ℕ) (why : Reason) (start end : ℕ) : Type 0 where
  pub rest : List ℕ
  pub length : ℕ
  pub reached : Reaches g 0 text start rest
  pub wrong : Wrong g rest why length
  pub ends : end ≡ start + length

-- what a language shows of its signs: none begins as a word or a number does
pub record HasSigns (g : Tokens) : Type 0 where
  pub of_sign : (b : ℕ) (k : g.Kind) → g.sign b ≡ Some k → mark b ≡ true
  pub of_pair : (b c : ℕ) (k : g.Kind) → g.pair b c ≡ Some k → mark b ≡ true

-- signs by a table
abbrev pub look : {K : Type 0} → List (ℕ × K) → ℕ → Option K
look [] b = None
look (e ∷ t) b = if b == e.0 then Some e.1 else look t b
