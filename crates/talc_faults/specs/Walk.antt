-- The tokens of a text one after the other: the last two, and the constructs that are open behind them.
use Rattle.std.specs.Prelude.{ℕ, suc, ◌+◌, ◌-◌, ◌==◌, nat_lt, ◌&&◌, ◌||◌, Bool, List, [], ◌∷◌, length, drop, codes}
use Rattle.std.specs.Prelude.{bytes_eq, if◌then◌else◌}
use Rattle.text_core.specs.Byte.{space, of_word}
use Rattle.talc_faults.specs.declared.walk.Mode.{Mode}
use Rattle.talc_faults.specs.declared.walk.Mode.TheVariants.{Between, InWord, Minus, Comment}
use Rattle.talc_faults.specs.declared.walk.Seen.{Seen}
use Rattle.talc_faults.specs.declared.walk.Seen.TheVariants.{Nowhere, Own, Ended}
use Rattle.talc_faults.specs.declared.walk.Walk.{Walk}
use Rattle.talc_faults.specs.Around.{bytes_at}
use Rattle.talc_faults.specs.Words.{opens}

-- ---- the token that begins at a place

-- how many bytes of a word these begin with
abbrev pub word_size : List ℕ → ℕ
word_size [] = 0
word_size (b ∷ s) = if of_word b then suc (word_size s) else 0

-- a sign has one byte, `->` and `:=` have two
abbrev pub joined : (first second : ℕ) → Bool
joined first second = first == 45 && second == 62 || first == 58 && second == 61

abbrev pub sign_size : List ℕ → ℕ
sign_size [] = 1
sign_size (b ∷ []) = 1
sign_size (b ∷ c ∷ s) = if joined b c then 2 else 1

abbrev pub token_size : List ℕ → ℕ
token_size bytes = if nat_lt 0 (word_size bytes) then word_size bytes else sign_size bytes

abbrev pub token_at : List ℕ → ℕ → List ℕ
token_at text start = bytes_at (drop start text) 0 (token_size (drop start text))

-- how many blanks these begin with, and the token behind them
abbrev pub gap_size : List ℕ → ℕ
gap_size [] = 0
gap_size (b ∷ s) = if space b then suc (gap_size s) else 0

abbrev pub token_behind : List ℕ → List ℕ
token_behind bytes = token_at bytes (gap_size bytes)

-- ---- a byte

-- one more, as far as is counted, and one less
abbrev pub deeper : ℕ → ℕ
deeper n = if nat_lt n 100000 then n + 1 else n

abbrev pub higher : ℕ → ℕ
higher n = n - 1

abbrev pub with_mode : Walk → Mode → Walk
with_mode w m = record w { mode = m }

-- a token begins
abbrev pub begun : Walk → ℕ → Mode → Walk
begun w at m = record w { before = w.last; last = at; mode = m }

-- what began with a `-` is a comment, and no token
abbrev pub comment : Walk → ℕ → Walk
comment w none = record w { last = w.before; before = none; mode = Comment }

abbrev pub with_depth : Walk → ℕ → Walk
with_depth w n = record w { depth = n }

-- this bracket is the last one at the depth that is looked for
abbrev pub noted : Walk → ℕ → Walk
noted w at = record w { bracket = at; by = w.last; behind = w.before }

-- a bracket begins, or ends
abbrev pub opened : Walk → ℕ → Walk
opened w at =
    if deeper w.depth == w.wanted then begun (with_depth (noted w at) (deeper w.depth)) at Between
    else begun (with_depth w (deeper w.depth)) at Between

abbrev pub closed : Walk → ℕ → Walk
closed w at = begun (with_depth w (higher w.depth)) at Between

-- so many `let`s and `open`s wait for their `in`; at so many the name's own one waits, or 0; and the name was seen so
abbrev pub with_lets : Walk → (lets own : ℕ) → Seen → Walk
with_lets w n m s = record w { lets = n; own = m; seen = s }

-- an `in` stands
abbrev pub passed : Walk → Walk
passed w =
    if nat_lt (higher w.lets) w.own then with_lets w (higher w.lets) 0 Ended
    else with_lets w (higher w.lets) w.own w.seen

-- the name stands behind a word
abbrev pub met : List ℕ → Walk → Walk
met binder w =
    if bytes_eq binder (codes "let") then with_lets w w.lets w.lets Own
    else if bytes_eq binder (codes "fix") && w.own == 0 then with_lets w w.lets 0 Ended
    else w

-- what a word changes
abbrev pub counted : (text name word : List ℕ) → Walk → Walk
counted text name word w =
    if opens word then with_lets w (deeper w.lets) w.own w.seen
    else if bytes_eq word (codes "in") then passed w
    else if bytes_eq word name then met (token_at text w.last) w
    else w

-- a sign
abbrev pub sign_begun : Walk → (at byte : ℕ) → Walk
sign_begun w at byte =
    if byte == 40 then opened w at else
    if byte == 60 then opened w at else
    if byte == 91 then opened w at else
    if byte == 123 then opened w at else
    if byte == 41 then closed w at else
    if byte == 62 then closed w at else
    if byte == 93 then closed w at else
    if byte == 125 then closed w at else
    if byte == 45 then begun w at Minus else
    begun w at Between

-- a byte that goes on with no token
abbrev pub other : (text name : List ℕ) → Walk → (at byte : ℕ) → Walk
other text name w at byte =
    if of_word byte then begun (counted text name (token_at text at) w) at InWord
    else if space byte then with_mode w Between
    else sign_begun w at byte

-- a byte behind a `-`
abbrev pub behind_minus : (text name : List ℕ) → Walk → (at byte : ℕ) → Walk
behind_minus text name w at byte =
    if byte == 45 then comment w (length text) else
    if byte == 62 then with_mode w Between else
    other text name w at byte

abbrev pub step_in : Mode → (text name : List ℕ) → Walk → (at byte : ℕ) → Walk
step_in Comment text name w at byte = if byte == 10 then with_mode w Between else w
step_in InWord text name w at byte = if of_word byte then w else other text name w at byte
step_in Minus text name w at byte = behind_minus text name w at byte
step_in Between text name w at byte = other text name w at byte

abbrev pub step : (text name : List ℕ) → Walk → (at byte : ℕ) → Walk
step text name w at byte = step_in w.mode text name w at byte

-- ---- a text

abbrev pub steps : (text name : List ℕ) → Walk → (at : ℕ) → List ℕ → Walk
steps text name w at [] = w
steps text name w at (b ∷ s) = steps text name (step text name w at b) (suc at) s

-- before the first byte: where no token is told, the end stands
abbrev pub at_start : List ℕ → (wanted : ℕ) → Walk
at_start text n = record {
  mode = Between;
  last = length text;
  before = length text;
  depth = 0;
  wanted = n;
  bracket = length text;
  by = length text;
  behind = length text;
  lets = 0;
  own = 0;
  seen = Nowhere;
}

-- behind the last byte of a text, where a bracket at this depth and this name are looked for
abbrev pub walked : (text name : List ℕ) → (wanted : ℕ) → Walk
walked text name wanted = steps text name (at_start text wanted) 0 text
