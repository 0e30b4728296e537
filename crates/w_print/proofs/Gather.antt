-- Bytes that are gathered to words, the lowest byte first, and stand in the memory.
use Rattle.std.proofs.Common.{◌≡◌, ℕ, zero, suc, ◌+◌, ◌-◌, ◌*◌, ◌/◌, ◌%◌, ◌<◌, ◌≤◌, ◌^◌}
use Rattle.std.proofs.Common.{List, [], ◌∷◌, ◌++◌, length, Option, Some, None, refl, sym, ap, ◌∙◌, arith}
use Rattle.std.proofs.Common.{option_and_then}
use Rattle.std.specs.Prelude.{option_map}
use Rattle.std.proofs.Math.Nat.{mul-add-mod_self_left, mod-eq_of_lt, div-div-eq-div-mul, mul_left_comm}
use Rattle.std.proofs.Math.Nat.{pow-le-pow_right}
use Rattle.w_print.specs.Words.{pack, AreBytes, WordsSay}
use Rattle.w_terms.specs.Machine.{Memory, byte_at, bytes_at}

pub bytes_more : (bs : List ℕ) (b : ℕ) → AreBytes bs → b < 256 → AreBytes (bs ++ (b ∷ []))
bytes_more [] b all lt = (lt, tt)
bytes_more (x ∷ bs) b all lt = (all.0, bytes_more bs b all.1 lt)

pub pack_more : (bs : List ℕ) (b : ℕ) → pack (bs ++ (b ∷ [])) ≡ pack bs + b * 256 ^ length bs
pack_more [] b = omega arith
pack_more (x ∷ bs) b =
    let rest = pack_more bs b in
    let one : 256 ^ suc (length bs) ≡ 256 * 256 ^ length bs = omega arith in
    let power : b * 256 ^ suc (length bs) ≡ 256 * (b * 256 ^ length bs) =
    ap (λ x. b * x) one ∙ mul_left_comm b 256 (256 ^ length bs) in
    omega (arith, rest, power)

pub pack_small : (bs : List ℕ) → AreBytes bs → pack bs < 256 ^ length bs
pack_small [] all = omega arith
pack_small (x ∷ bs) all =
    let rest = pack_small bs all.1 in
    let lt = all.0 in
    let power : 256 ^ suc (length bs) ≡ 256 * 256 ^ length bs = omega arith in
    omega (arith, rest, power, lt)

-- what the next byte is taken by
pub factor_next : (k : ℕ) → k < 7 → (256 ^ k * 256) % 2 ^ 64 ≡ 256 ^ suc k
factor_next zero lt = refl
factor_next (suc zero) lt = refl
factor_next (suc (suc zero)) lt = refl
factor_next (suc (suc (suc zero))) lt = refl
factor_next (suc (suc (suc (suc zero)))) lt = refl
factor_next (suc (suc (suc (suc (suc zero))))) lt = refl
factor_next (suc (suc (suc (suc (suc (suc zero)))))) lt = refl
factor_next (suc (suc (suc (suc (suc (suc (suc k))))))) lt = absurd (omega (arith, lt))

pub factor_small : (k : ℕ) → k < 8 → 256 * 256 ^ k ≤ 2 ^ 64
factor_small k lt =
    let at_most : k ≤ 7 = omega (arith, lt) in
    let some : 0 < 256 = omega arith in
    let le : 256 ^ k ≤ 256 ^ 7 = pow-le-pow_right some at_most in
    omega (arith, le)

-- bytes behind others
pub bytes_join : (m : Memory) (n k a : ℕ) (xs ys : List ℕ) → bytes_at m a n ≡ Some xs → bytes_at m (a + n) k ≡ Some ys →
    bytes_at m a (n + k) ≡ Some (xs ++ ys)
bytes_join m zero k a xs ys e f =
    let none : xs ≡ [] = cc in
    let plus : a + 0 ≡ a = omega arith in
    let sum : 0 + k ≡ k = omega arith in
    ap (bytes_at m a) sum ∙ ap (λ b. bytes_at m b k) (sym plus) ∙ f ∙ ap (λ zs. Some (zs ++ ys)) (sym none)
bytes_join m (suc n) k a xs ys e f =
    let sum : suc n + k ≡ suc (n + k) = omega arith in
    let plus : a + suc n ≡ suc a + n = omega arith in
    ap (bytes_at m a) sum
    ∙ go xs (byte_at m a) (bytes_at m (suc a) n) (bytes_at m (suc a) (n + k)) e
    (λ zs g. bytes_join m n k (suc a) zs ys g (ap (λ b. bytes_at m b k) (sym plus) ∙ f))
  where
    go : (xs : List ℕ) (o : Option ℕ) (p q : Option (List ℕ)) →
        option_and_then (λ b. option_map (λ bs. b ∷ bs) p) o ≡ Some xs →
        ((zs : List ℕ) → p ≡ Some zs → q ≡ Some (zs ++ ys)) →
        option_and_then (λ b. option_map (λ bs. b ∷ bs) q) o ≡ Some (xs ++ ys)
    go xs None p q e next = cc
    go xs (Some b) None q e next = cc
    go xs (Some b) (Some zs) q e next =
        let same : b ∷ zs ≡ xs = cc in
        ap (option_map (λ bs. b ∷ bs)) (next zs refl) ∙ ap (λ us. Some (us ++ ys)) same

-- the bytes of a word
module _ (m : Memory) (a i w : ℕ) (aligned : a ≡ 8 * i) (has : m a ≡ Some w) where
  -- from byte k on
  pub word_bytes : (bs : List ℕ) (k : ℕ) → AreBytes bs → k + length bs ≤ 8 → w / 256 ^ k ≡ pack bs →
      bytes_at m (a + k) (length bs) ≡ Some bs
  word_bytes [] k all le e = refl
  word_bytes (b ∷ bs) k all le e =
      let lt = all.0 in
      let rem : (a + k) % 8 ≡ k =
      ap (λ x. (x + k) % 8) aligned ∙ mul-add-mod_self_left 8 i k ∙ mod-eq_of_lt (omega (arith, le)) in
      let back : a + k - k ≡ a = omega arith in
      let next : suc (a + k) ≡ a + suc k = omega arith in
      let low : (w / 256 ^ k) % 256 ≡ b = ap (λ x. x % 256) e ∙ omega (arith, lt) in
      let here : byte_at m (a + k) ≡ Some b =
      ap (λ j. option_map (λ v. (v / 256 ^ j) % 256) (m (a + k - j))) rem
      ∙ ap (λ x. option_map (λ v. (v / 256 ^ k) % 256) (m x)) back
      ∙ ap (option_map (λ v. (v / 256 ^ k) % 256)) has ∙ ap Some low in
      let power : 256 ^ suc k ≡ 256 ^ k * 256 = omega arith in
      let high : w / 256 ^ suc k ≡ pack bs =
      ap (λ x. w / x) power ∙ sym (div-div-eq-div-mul w (256 ^ k) 256) ∙ ap (λ x. x / 256) e ∙ omega (arith, lt) in
      ap (λ o. option_and_then (λ c. option_map (λ cs. c ∷ cs) (bytes_at m (suc (a + k)) (length bs))) o) here
      ∙ ap (λ x. option_map (λ cs. b ∷ cs) (bytes_at m x (length bs))) next
      ∙ ap (option_map (λ cs. b ∷ cs)) (word_bytes bs (suc k) all.1 (omega (arith, le)) high)

  pub whole_word : (bs : List ℕ) → AreBytes bs → length bs ≤ 8 → w ≡ pack bs → bytes_at m a (length bs) ≡ Some bs
  whole_word bs all le e =
      let none : a + 0 ≡ a = omega arith in
      let all' : w / 256 ^ 0 ≡ pack bs = omega (arith, e) in
      ap (λ x. bytes_at m x (length bs)) (sym none) ∙ word_bytes bs 0 all (omega (arith, le)) all'

pub words_say : WordsSay
words_say m a x bs cs aligned all more long le e f =
    let next : a + 8 ≡ 8 * (x + 1) = omega (arith, aligned) in
    let full : bytes_at m a 8 ≡ Some bs =
    ap (bytes_at m a) (sym long) ∙ whole_word m a x (pack bs) aligned e bs all (omega (arith, long)) refl in
    bytes_join m 8 (length cs) a bs cs full (whole_word m (a + 8) (x + 1) (pack cs) next f cs more le refl)
