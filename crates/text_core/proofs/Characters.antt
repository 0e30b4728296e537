-- Digits, letters, and what ends a word: as bytes stand at the start of a text.
use Rattle.std.proofs.Common.{◌≡◌, ◌≤◌, ◌<◌, ◌^◌, ◌==◌, ℕ, ◌+◌, List, [], ◌∷◌, ◌++◌, length, true, false, refl, ap, ◌∙◌}
use Rattle.std.proofs.Common.{arith, decimal}
use Rattle.std.specs.List.{prefix_len, list_all}
use Rattle.std.proofs.lemmas.Bool.{and_parts}
use Rattle.std.proofs.lemmas.Bool.Decides.{nat_tests}
use Rattle.std.proofs.lemmas.Str.Parse.{IsDigitsTest, IsNumeralModel, numerals_by_fold}
use Rattle.std.proofs.lemmas.Fmt.{digits_decimal, digits_value-decimal}
use Rattle.text_core.specs.Byte.{space, digit, letter, of_word, value, value_from}
use Rattle.text_core.specs.Lexeme.{at_dashes, at_negative}

-- all bytes are digits
abbrev pub AreDigits : List ℕ → Type 0
AreDigits ds = list_all digit ds ≡ true

pub is_digit : (c : ℕ) → 48 ≤ c → c ≤ 57 → digit c ≡ true
is_digit c a b = grind (arith, nat_tests)

pub digit_low : (c : ℕ) → digit c ≡ true → 48 ≤ c
digit_low c e = grind (arith, nat_tests)

pub digit_high : (c : ℕ) → digit c ≡ true → c ≤ 57
digit_high c e = grind (arith, nat_tests)

pub digits_test : IsDigitsTest AreDigits
digits_test = record {
  empty = refl;
  parts = λ c cs e. let p = and_parts (digit c) (list_all digit cs) e in ((digit_low c p.0, digit_high c p.0), p.1);
  more = λ c cs r e. rw (is_digit c r.0 r.1) e;
}

pub numerals : IsNumeralModel AreDigits value
numerals = numerals_by_fold AreDigits digits_test value_from (record { empty = λ n. refl; more = λ n c cs r. refl })

pub are_digits : (n : ℕ) → n < 2 ^ 64 → AreDigits (decimal n)
are_digits n h = digits_decimal numerals n h

pub value_is : (n : ℕ) → n < 2 ^ 64 → value (decimal n) ≡ n
value_is n h = digits_value-decimal numerals n h

-- what follows ends a word and a number
abbrev pub Stops : List ℕ → Type 0
Stops [] = Unit {0}
Stops (b ∷ s) = of_word b ≡ false

pub no_digit : (b : ℕ) → of_word b ≡ false → digit b ≡ false
no_digit b e = grind (arith, nat_tests)

pub run_digits : (ds r : List ℕ) → AreDigits ds → Stops r → prefix_len digit (ds ++ r) ≡ length ds
run_digits [] [] h s = refl
run_digits [] (b ∷ r) h s = rw (no_digit b s) refl
run_digits (d ∷ ds) r h s =
    let p = and_parts (digit d) (list_all digit ds) h in rw p.0 (ap (λ n. 1 + n) (run_digits ds r p.1 s) ∙ omega arith)

pub run_word : (u r : List ℕ) → list_all of_word u ≡ true → Stops r → prefix_len of_word (u ++ r) ≡ length u
run_word [] [] h s = refl
run_word [] (b ∷ r) h s = rw s refl
run_word (c ∷ u) r h s =
    let p = and_parts (of_word c) (list_all of_word u) h in rw p.0 (ap (λ n. 1 + n) (run_word u r p.1 s) ∙ omega arith)

pub no_dashes : (b : ℕ) (s : List ℕ) → (b == 45) ≡ false → at_dashes (b ∷ s) ≡ false
no_dashes b [] e = refl
no_dashes b (c ∷ s) e = rw e refl

pub no_tilde : (b : ℕ) (s : List ℕ) → (b == 126) ≡ false → at_negative (b ∷ s) ≡ false
no_tilde b [] e = refl
no_tilde b (c ∷ s) e = rw e refl

pub digit_no_space : (d : ℕ) → digit d ≡ true → space d ≡ false
digit_no_space d h = let e = digit_low d h in grind (arith, nat_tests)

pub digit_no_dash : (d : ℕ) → digit d ≡ true → (d == 45) ≡ false
digit_no_dash d h = let e = digit_low d h in grind (arith, nat_tests)

pub digit_no_letter : (d : ℕ) → digit d ≡ true → letter d ≡ false
digit_no_letter d h = let e = digit_high d h in grind (arith, nat_tests)

pub letter_low : (b : ℕ) → letter b ≡ true → 65 ≤ b
letter_low b e = grind (arith, nat_tests)

pub letter_no_space : (b : ℕ) → letter b ≡ true → space b ≡ false
letter_no_space b h = let e = letter_low b h in grind (arith, nat_tests)

pub letter_no_dash : (b : ℕ) → letter b ≡ true → (b == 45) ≡ false
letter_no_dash b h = let e = letter_low b h in grind (arith, nat_tests)

pub digit_of_word : (b : ℕ) → digit b ≡ true → of_word b ≡ true
digit_of_word b h = grind (arith, nat_tests)

pub digits_of_word : (ds : List ℕ) → AreDigits ds → list_all of_word ds ≡ true
digits_of_word [] h = refl
digits_of_word (d ∷ ds) h =
    let p = and_parts (digit d) (list_all digit ds) h in rw (digit_of_word d p.0) (digits_of_word ds p.1)
