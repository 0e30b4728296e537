-- What is written: the bytes that word code means stand in the machine's memory.
use Rattle.std.proofs.Common.{◌≡◌, ℕ, zero, suc, ◌+◌, ◌-◌, ◌/◌, ◌%◌, ◌<◌, ◌≤◌, ◌^◌, List, [], ◌∷◌, ◌++◌, length}
use Rattle.std.proofs.Common.{Bool, true, false, ◌&&◌, ◌||◌, ◌==◌}
use Rattle.std.proofs.Common.{Some, refl, ap, sym, ◌∙◌, arith, leb-true, le-leb, nat_le}
use Rattle.std.proofs.Common.{option_map}
use Rattle.x_terms.specs.Machine.{Image, are_bytes, byte, bytes}
use Rattle.x_laws.specs.Core.{Core}
use Rattle.x_laws.specs.Homes.{Home, Agrees}
use Rattle.x_laws.proofs.Whole.{mapped}
use Rattle.x_laws.proofs.Steps.{chained}
use Rattle.w_terms.specs.Machine.{WRegs, Memory, byte_at, bytes_at}

both_true : (a b : Bool) → a && b ≡ true → (a ≡ true) × (b ≡ true)
both_true true true e = (refl, refl)
both_true true false e = absurd (cc)
both_true false b e = absurd (cc)

pub and_true : (a b : Bool) → a ≡ true → b ≡ true → a && b ≡ true
and_true true true p q = refl
and_true true false p q = absurd (cc)
and_true false b p q = absurd (cc)

pub or_true : (a b : Bool) → b ≡ true → a || b ≡ true
or_true true b p = refl
or_true false b p = p

module _ (m : Image) (n : ℕ) (homes : ℕ → Home) (r : WRegs) (mem : Memory) (c : Core)
    (g : Agrees m n homes r mem c) where
  -- a byte of word code
  pub one_byte : (a b : ℕ) → byte_at mem a ≡ Some b →
      (byte c.memory a ≡ b) × (m.data_at ≤ a) × (a + 1 ≤ m.data_end)
  one_byte a b e =
      let w = mapped (λ (x : ℕ). (x / 256 ^ (a % 8)) % 256) (mem (a - a % 8)) b e in
      let old = g.words (a - a % 8) w.0 w.1 in
      let tests = both_true ((a - a % 8) % 8 == 0 && nat_le m.data_at (a - a % 8)) _ old.0 in
      let low = both_true ((a - a % 8) % 8 == 0) _ tests.0 in
      let from : m.data_at ≤ a - a % 8 = leb-true m.data_at (a - a % 8) low.1 in
      let to : a - a % 8 + 8 ≤ m.data_end = leb-true (a - a % 8 + 8) m.data_end tests.1 in
      (ap (λ (x : ℕ). x / 256 ^ (a % 8) % 256) old.2 ∙ w.2, omega arith, omega arith)

  -- the bytes, of which there are some
  pub more_bytes : (k a : ℕ) (bs : List ℕ) → bytes_at mem a (suc k) ≡ Some bs →
      (bytes c.memory a (suc k) ≡ bs) × (m.data_at ≤ a) × (a + suc k ≤ m.data_end)
  more_bytes zero a bs e =
      let p = chained (λ b. option_map (λ rest. b ∷ rest) (bytes_at mem (suc a) zero)) (byte_at mem a) bs e in
      let b = one_byte a p.0 p.1 in
      let is : p.0 ∷ [] ≡ bs = cc in
      (ap (λ x. x ∷ []) b.0 ∙ is, b.1, b.2)
  more_bytes (suc k) a bs e =
      let p = chained (λ b. option_map (λ rest. b ∷ rest) (bytes_at mem (suc a) (suc k))) (byte_at mem a) bs e in
      let b = one_byte a p.0 p.1 in
      let q = mapped (λ rest. p.0 ∷ rest) (bytes_at mem (suc a) (suc k)) bs p.2 in
      let more = more_bytes k (suc a) q.0 q.1 in
      let end : suc a + suc k ≤ m.data_end = more.2 in (
        ap (λ x. x ∷ bytes c.memory (suc a) (suc k)) b.0 ∙ ap (λ x. p.0 ∷ x) more.0 ∙ q.2,
        b.1,
        omega arith,
      )

  pub all_bytes : (k a : ℕ) (bs : List ℕ) → bytes_at mem a k ≡ Some bs →
      (bytes c.memory a k ≡ bs) × (0 < k → (m.data_at ≤ a) × (a + k ≤ m.data_end))
  all_bytes zero a bs e = let is : [] ≡ bs = cc in (is, λ h. absurd (omega arith))
  all_bytes (suc k) a bs e = let h = more_bytes k a bs e in (h.0, λ p. (h.1, h.2))

-- bytes that lie among the data
pub are_data : (m : Image) (a k : ℕ) → (0 < k → (m.data_at ≤ a) × (a + k ≤ m.data_end)) → are_bytes m a k ≡ true
are_data m a zero h = refl
are_data m a (suc k) h =
    let within = h (omega arith) in
    or_true (suc k == 0) _
    (and_true (nat_le m.data_at a) _ (le-leb m.data_at a within.0) (le-leb (a + suc k) m.data_end within.1))

pub bytes_length : (m : ℕ → ℕ) (a k : ℕ) → length (bytes m a k) ≡ k
bytes_length m a zero = refl
bytes_length m a (suc k) = ap suc (bytes_length m (suc a) k)

-- the first bytes, and those behind them
pub bytes_split : (m : ℕ → ℕ) (a j k : ℕ) → bytes m a (j + k) ≡ bytes m a j ++ bytes m (a + j) k
bytes_split m a zero k =
    let none : a + 0 ≡ a = omega arith in
    let all : 0 + k ≡ k = omega arith in
    ap (bytes m a) all ∙ ap (λ b. bytes m b k) (sym none)
bytes_split m a (suc j) k =
    let more : suc j + k ≡ suc (j + k) = omega arith in
    let next : suc a + j ≡ a + suc j = omega arith in
    ap (bytes m a) more ∙ ap (λ bs. byte m a ∷ bs) (bytes_split m (suc a) j k)
    ∙ ap (λ b. bytes m a (suc j) ++ bytes m b k) next
