-- The decimal text of a number is one token.
use Rattle.std.proofs.Common.{◌≡◌, ◌<◌, ◌^◌, ℕ, ◌+◌, List, [], ◌∷◌, ◌++◌, length, true, false, refl, ap}
use Rattle.std.proofs.Common.{◌∙◌, subst, arith, pos, decimal}
use Rattle.std.specs.List.{prefix_len, list_all}
use Rattle.std.proofs.lemmas.Bool.{and_parts}
use Rattle.std.proofs.lemmas.Fmt.{digits_decimal, digits_value-decimal, decimal_nonempty}
use Rattle.std.proofs.Math.Seq.{take-append_seam}
use Rattle.text_core.specs.Byte.{digit, value}
use Rattle.text_core.specs.Tokens.{Item, Spelling, Next}
use Rattle.text_core.specs.Lexeme.{Piece, PPlain, piece, of_piece, item}
use Rattle.text_core.proofs.Items.{some_next}
use Rattle.f_lexer.specs.declared.kind.Kind.{Kind}
use Rattle.f_lexer.specs.declared.kind.Kind.TheVariants as k
use Rattle.f_lexer.specs.Source.{source}
use Rattle.f_lexer.proofs.Finding.{source_signs}
use Rattle.text_core.proofs.Characters.{AreDigits, numerals, no_dashes, digit_no_space, digit_no_dash}
use Rattle.text_core.proofs.Characters.{digit_no_letter}

-- these bytes are digits of the value c, and some
pub record Spelled (c : ℕ) (d : ℕ) (ds : List ℕ) : Type 0 where
  pub first : digit d ≡ true
  pub others : list_all digit ds ≡ true
  pub is : value (d ∷ ds) ≡ c

-- the text of a number, as its first digit and the others
pub record Numeral (c : ℕ) : Type 0 where
  pub d : ℕ
  pub ds : List ℕ
  pub text : decimal c ≡ d ∷ ds
  pub spelled : Spelled c d ds

taken : (c : ℕ) (s : List ℕ) → decimal c ≡ s → 0 < length s → list_all digit s ≡ true → value s ≡ c → Numeral c
taken c [] e h a v = absurd (omega arith)
taken c (d ∷ ds) e h a v =
    let p = and_parts (digit d) (list_all digit ds) a in
    record { d = d; ds = ds; text = e; spelled = record { first = p.0; others = p.1; is = v } }

pub numeral : (c : ℕ) → c < 20 → Numeral c
numeral c h =
    let low : c < 2 ^ 64 = omega arith in
    taken c (decimal c) refl (decimal_nonempty c low) (digits_decimal numerals c low)
    (digits_value-decimal numerals c low)

run_digits : (ds : List ℕ) (b : ℕ) (r : List ℕ) → AreDigits ds → digit b ≡ false →
    prefix_len digit (ds ++ b ∷ r) ≡ length ds
run_digits [] b r h s = rw s refl
run_digits (d ∷ ds) b r h s =
    let p = and_parts (digit d) (list_all digit ds) h in
    rw p.0 (ap (λ n. 1 + n) (run_digits ds b r p.1 s) ∙ omega arith)

number_item : (c d : ℕ) (ds : List ℕ) (b : ℕ) (r : List ℕ) → Spelled c d ds → digit b ≡ false →
    item source (d ∷ (ds ++ b ∷ r)) ≡ Spelling (k.Plain (pos c)) (length (d ∷ ds))
number_item c d ds b r h s =
    let n : 1 + prefix_len digit (ds ++ b ∷ r) ≡ length (d ∷ ds) =
    ap (λ n. 1 + n) (run_digits ds b r h.others s) ∙ omega arith in
    let p : piece (d ∷ (ds ++ b ∷ r)) ≡ PPlain (1 + prefix_len digit (ds ++ b ∷ r)) =
    rw (
      digit_no_space d h.first,
      no_dashes d (ds ++ b ∷ r) (digit_no_dash d h.first),
      digit_no_letter d h.first,
      h.first,
    ) refl in
    ap (λ (x : Piece). of_piece source (d ∷ (ds ++ b ∷ r)) x) (p ∙ ap PPlain n) ∙
    (ap (λ u. Spelling (k.Plain (pos (value u))) (length (d ∷ ds))) (take-append_seam (d ∷ ds) (b ∷ r))
    ∙ ap (λ v. Spelling (k.Plain (pos v)) (length (d ∷ ds))) h.is)

-- the digits of c before a byte that is no digit are one token
pub number_next : (c d : ℕ) (ds : List ℕ) (b : ℕ) (r : List ℕ) → Spelled c d ds → digit b ≡ false →
    Next source (d ∷ (ds ++ b ∷ r)) (Spelling (k.Plain (pos c)) (length (d ∷ ds)))
number_next c d ds b r h s =
    subst (λ (x : Item Kind). Next source (d ∷ (ds ++ b ∷ r)) x) (number_item c d ds b r h s)
    (some_next source source_signs d (ds ++ b ∷ r))
