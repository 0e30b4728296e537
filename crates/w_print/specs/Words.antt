-- Texts that stand in the memory as words.
use Rattle.std.specs.Prelude.{◌≡◌, ℕ, ◌+◌, ◌*◌, ◌<◌, ◌≤◌, List, [], ◌∷◌, ◌++◌, length, Some}
use Rattle.w_terms.specs.Machine.{Memory, bytes_at}

-- bytes as a word, the lowest first
abbrev pub pack : List ℕ → ℕ
pack [] = 0
pack (b ∷ bs) = b + 256 * pack bs

abbrev pub AreBytes : List ℕ → Type 0
AreBytes [] = Unit {0}
AreBytes (b ∷ bs) = (b < 256) × AreBytes bs

-- where eight bytes and at most eight more stand as two words, they are there one after the other
abbrev pub WordsSay : Type 0
WordsSay =
    (m : Memory) (a x : ℕ) (bs cs : List ℕ) → a ≡ 8 * x → AreBytes bs → AreBytes cs → length bs ≡ 8 → length cs ≤ 8 →
    m a ≡ Some (pack bs) → m (a + 8) ≡ Some (pack cs) → bytes_at m a (8 + length cs) ≡ Some (bs ++ cs)
