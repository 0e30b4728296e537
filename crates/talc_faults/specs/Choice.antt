-- The choice of a hint: of the rows of a table the first whose tests all hold of what stands around a place.
use Rattle.std.specs.Prelude.{ℕ, ◌==◌, ◌&&◌, ◌||◌, Bool, true, false, List, [], ◌∷◌, drop, length, codes, bytes_eq}
use Rattle.std.specs.Prelude.{if◌then◌else◌}
use Rattle.std.specs.Borrow.{Bor}
use Rattle.text_core.specs.Byte.{digit, letter}
use Rattle.talc_faults.specs.declared.choice.At.{At}
use Rattle.talc_faults.specs.declared.choice.At.TheVariants.{Told, Kind, Inside, Earlier, Before, Found, Behind}
use Rattle.talc_faults.specs.declared.choice.Facts.{Facts}
use Rattle.talc_faults.specs.Around.{bytes_at}

-- what is told of a fault, and what stands around its place
pub record Place : Type 0 where
  pub told : List ℕ
  pub kind : List ℕ
  pub inside : List ℕ
  pub earlier : List ℕ
  pub before : List ℕ
  pub found : List ℕ
  pub behind : List ℕ

-- as the code has them
abbrev pub read : Facts → Place
read f = record {
  told = f.told.now;
  kind = f.kind.now;
  inside = f.inside.now;
  earlier = f.earlier.now;
  before = f.before.now;
  found = f.found.now;
  behind = f.behind.now;
}

-- tests, and a row: its tests and its sentence
abbrev pub Tests : Type 0
Tests = List (At × List ℕ)

abbrev pub lent_tests : List (At × Bor (List ℕ)) → Tests
lent_tests [] = []
lent_tests (t ∷ rest) = (t.0, t.1.now) ∷ lent_tests rest

abbrev pub lent : List (Bor (List (At × Bor (List ℕ))) × Bor (List ℕ)) → List (Tests × List ℕ)
lent [] = []
lent (r ∷ rest) = (lent_tests r.0.now, r.1.now) ∷ lent rest

-- words with blanks between: they begin with this one; it is one of them
abbrev pub parted : List ℕ → Bool
parted [] = true
parted (b ∷ s) = b == 32

abbrev pub stands : (words word : List ℕ) → Bool
stands words word = bytes_eq (bytes_at words 0 (length word)) word && parted (drop (length word) words)

abbrev pub stands_behind : (words word : List ℕ) → Bool
stands_behind [] word = false
stands_behind (b ∷ s) word = if b == 32 && stands s word then true else stands_behind s word

abbrev pub among : (words word : List ℕ) → Bool
among words word = if stands words word then true else stands_behind words word

-- the word for all tokens that are like this one: `@` for each that begins with a letter, `1` for numbers, `$` for none
abbrev pub byte_class : ℕ → List ℕ
byte_class byte =
    if letter byte then codes "@" else
    if digit byte then codes "1" else
    if byte == 206 then codes "greek" else
    if byte == 239 then codes "mark" else
    []

abbrev pub class_of : List ℕ → List ℕ
class_of [] = codes "$"
class_of (b ∷ s) = byte_class b

abbrev pub fits : (words token : List ℕ) → Bool
fits words token = among words token || among words (class_of token)

-- a test holds: the line begins so, or what stands there is one of the words
abbrev pub holds : Place → At → List ℕ → Bool
holds p Told words = bytes_eq (bytes_at p.told 0 (length words)) words
holds p Kind words = among words p.kind
holds p Inside words = fits words p.inside
holds p Earlier words = fits words p.earlier
holds p Before words = fits words p.before
holds p Found words = fits words p.found
holds p Behind words = fits words p.behind

abbrev pub all_hold : Place → Tests → Bool
all_hold p [] = true
all_hold p (t ∷ rest) = if holds p t.0 t.1 then all_hold p rest else false

-- the sentence of the first row whose tests all hold, or another one
abbrev pub pick : Place → List (Tests × List ℕ) → (otherwise : List ℕ) → List ℕ
pick p [] otherwise = otherwise
pick p (r ∷ rest) otherwise = if all_hold p r.0 then r.1 else pick p rest otherwise
