-- What stands at the start of written bytes: each lexeme is one item, where what follows it ends it.
use Rattle.std.proofs.Common.{◌≡◌, ◌<◌, ◌^◌, ◌≤ℤ◌, ℕ, ℤ, suc, ◌+◌, List, [], ◌∷◌, ◌++◌, length, take, drop, Bool}
use Rattle.std.proofs.Common.{true, false, ◌&&◌, ◌||◌, not, ◌==◌, refl, ap, ◌∙◌, arith, pos, negsuc, neg_ℤ, decimal}
use Rattle.std.proofs.Common.{Option, Some, None}
use Rattle.std.specs.List.{prefix_len, list_all}
use Rattle.std.proofs.lemmas.Bool.{and_parts}
use Rattle.std.proofs.lemmas.Bool.Decides.{nat_tests}
use Rattle.std.proofs.lemmas.Int.{ints}
use Rattle.std.proofs.lemmas.Fmt.{decimal_nonempty}
use Rattle.std.proofs.Math.Seq.{take-append_seam}
use Rattle.text_core.specs.Byte.{space, digit, letter, of_word, value}
use Rattle.text_core.specs.Tokens.{Item, Gap, Spelling, look}
use Rattle.text_core.specs.Lexeme.{Piece, PWord, PPlain, PNegative, POther, piece, of_piece}
use Rattle.text_core.specs.Lexeme.{of_sign, of_pair, sign_item, item}
use Rattle.f_lexer.specs.declared.kind.Kind.{Kind}
use Rattle.f_lexer.specs.declared.kind.Kind.TheVariants as k
use Rattle.f_lexer.specs.Source.{source, Keeps, words, word_in, signs, pair}
use Rattle.f_writer.proofs.Lexemes.{Lexeme, Reserved, ValueName, TypeName, Number, Sign, Pair, Spaced, Blank, bytes}
use Rattle.text_core.proofs.Characters.{AreDigits, are_digits, value_is, Stops, run_digits, run_word, no_dashes}
use Rattle.text_core.proofs.Characters.{no_tilde, digit_no_space, digit_no_dash, digit_no_letter, letter_no_space}
use Rattle.text_core.proofs.Characters.{letter_no_dash, digits_of_word}

-- a word
word_item : (b : ℕ) (u r : List ℕ) → letter b ≡ true → list_all of_word u ≡ true → Stops r →
    item source (b ∷ (u ++ r)) ≡ Spelling (word_in words (b ∷ u)) (length (b ∷ u))
word_item b u r l h s =
    let n : 1 + prefix_len of_word (u ++ r) ≡ length (b ∷ u) = ap (λ n. 1 + n) (run_word u r h s) ∙ omega arith in
    let p : piece (b ∷ (u ++ r)) ≡ PWord (1 + prefix_len of_word (u ++ r)) = rw
    (letter_no_space b l, no_dashes b (u ++ r) (letter_no_dash b l), l) refl in
    ap (λ (x : Piece). of_piece source (b ∷ (u ++ r)) x) (p ∙ ap PWord n) ∙ ap
    (λ v. Spelling (word_in words v) (length (b ∷ u))) (take-append_seam (b ∷ u) r)

-- digits, and a tilde with digits
plain_item : (ds r : List ℕ) → 0 < length ds → AreDigits ds → Stops r →
    item source (ds ++ r) ≡ Spelling (k.Plain (pos (value ds))) (length ds)
plain_item [] r some h s = absurd (omega arith)
plain_item (d ∷ ds) r some h s =
    let q = and_parts (digit d) (list_all digit ds) h in
    let n : 1 + prefix_len digit (ds ++ r) ≡ length (d ∷ ds) = ap (λ n. 1 + n) (run_digits ds r q.1 s) ∙ omega
    arith in
    let p : piece (d ∷ (ds ++ r)) ≡ PPlain (1 + prefix_len digit (ds ++ r)) = rw
    (digit_no_space d q.0, no_dashes d (ds ++ r) (digit_no_dash d q.0), digit_no_letter d q.0, q.0) refl in
    ap (λ (x : Piece). of_piece source (d ∷ (ds ++ r)) x) (p ∙ ap PPlain n) ∙ ap
    (λ u. Spelling (k.Plain (pos (value u))) (length (d ∷ ds))) (take-append_seam (d ∷ ds) r)

negative_item : (ds r : List ℕ) → 0 < length ds → AreDigits ds → Stops r →
    item source (126 ∷ (ds ++ r)) ≡ Spelling (k.Negative (neg_ℤ (pos (value ds)))) (1 + length ds)
negative_item [] r some h s = absurd (omega arith)
negative_item (d ∷ ds) r some h s =
    let q = and_parts (digit d) (list_all digit ds) h in
    let n : prefix_len digit (d ∷ ds ++ r) ≡ length (d ∷ ds) = run_digits (d ∷ ds) r h s in
    let p : piece (126 ∷ (d ∷ (ds ++ r))) ≡ PNegative (1 + prefix_len digit (d ∷ ds ++ r)) = rw q.0 refl in
    ap (λ (x : Piece). of_piece source (126 ∷ (d ∷ (ds ++ r))) x) (p ∙ ap (λ n. PNegative (1 + n)) n)
    ∙ ap (λ u. Spelling (k.Negative (neg_ℤ (pos (value u)))) (1 + length (d ∷ ds))) (take_more d ds r)
  where
    take_more : (d : ℕ) (ds r : List ℕ) → drop 1 (take (1 + length (d ∷ ds)) (126 ∷ (d ∷ (ds ++ r)))) ≡ d ∷ ds
    take_more d ds r =
        let e : 1 + length (d ∷ ds) ≡ length (126 ∷ (d ∷ ds)) = omega arith in
        ap (drop 1) (ap (λ n. take n (126 ∷ (d ∷ (ds ++ r)))) e ∙ take-append_seam (126 ∷ (d ∷ ds)) r)

-- a byte that begins no gap, word, number or sign of two bytes
abbrev pub plain_sign : ℕ → Bool
plain_sign b = not (space b || of_word b || b == 45 || b == 58 || b == 126)

other_piece : (b : ℕ) (s : List ℕ) → plain_sign b ≡ true → piece (b ∷ s) ≡ POther
other_piece b s e =
    let p : space b ≡ false = grind (arith, nat_tests) in
    let q : letter b ≡ false = grind (arith, nat_tests) in
    let d : digit b ≡ false = grind (arith, nat_tests) in
    let m : (b == 45) ≡ false = grind (arith, nat_tests) in
    let t : (b == 126) ≡ false = grind (arith, nat_tests) in
    rw (p, no_dashes b s m, q, d, no_tilde b s t) refl

sign_is : (b : ℕ) (s : List ℕ) (x : Kind) → (b == 45) ≡ false → (b == 58) ≡ false → look signs b ≡ Some x →
    sign_item source (b ∷ s) ≡ Spelling x 1
sign_is b [] x m c e = rw e refl
sign_is b (d ∷ s) x m c e =
    let p : pair b d ≡ None = rw (m, c) refl in
    ap (λ (o : Option Kind). of_pair o (of_sign (look signs b))) p ∙ ap (λ (o : Option Kind). of_sign o) e

sign_read : (b : ℕ) (s : List ℕ) (x : Kind) → plain_sign b ≡ true → look signs b ≡ Some x →
    item source (b ∷ s) ≡ Spelling x 1
sign_read b s x p e =
    let m : (b == 45) ≡ false = grind (arith, nat_tests) in
    let c : (b == 58) ≡ false = grind (arith, nat_tests) in
    ap (λ (y : Piece). of_piece source (b ∷ s) y) (other_piece b s p) ∙ sign_is b s x m c e

-- no reserved word begins as the name of a value or of a type does
value_word : (ds : List ℕ) → word_in words (120 ∷ ds) ≡ k.Name
value_word [] = refl
value_word (d ∷ ds) = refl

type_word : (ds : List ℕ) → word_in words (116 ∷ ds) ≡ k.Name
type_word [] = refl
type_word (d ∷ ds) = refl

-- a reserved word by its bytes
abbrev pub is_word : List ℕ → Bool
is_word [] = false
is_word (b ∷ s) = letter b && list_all of_word s

reserved_item : (u r : List ℕ) → is_word u ≡ true → Stops r →
    item source (u ++ r) ≡ Spelling (word_in words u) (length u)
reserved_item [] r h s = absurd (cc)
reserved_item (b ∷ u) r h s = let p = and_parts (letter b) (list_all of_word u) h in word_item b u r p.0 p.1 s

-- lexemes that may be written
abbrev pub Valid : Lexeme → Type 0
Valid (Reserved u kind) = (is_word u ≡ true) × (word_in words u ≡ kind) × Keeps kind
Valid (ValueName n) = n < 2 ^ 64
Valid (TypeName n) = n < 2 ^ 64
Valid (Number z) = (negsuc 9223372036854775807 ≤ℤ z) × (z ≤ℤ pos 9223372036854775807)
Valid (Sign b kind) = (plain_sign b ≡ true) × (look signs b ≡ Some kind) × Keeps kind
Valid (Pair a b kind) = (of_word a ≡ false) × ((s : List ℕ) → item source (a ∷ (b ∷ s)) ≡ Spelling kind 2) × Keeps
    kind
Valid (Spaced b kind) = (of_word b ≡ false) × ((s : List ℕ) → item source (b ∷ (32 ∷ s)) ≡ Spelling kind 1) × Keeps
    kind
Valid (Blank b) = space b ≡ true

-- the kind of the token that a number is, and of a lexeme's token
abbrev pub number_kind : ℤ → Kind
number_kind (pos n) = k.Plain (pos n)
number_kind (negsuc n) = k.Negative (negsuc n)

abbrev pub kind_of : Lexeme → Kind
kind_of (Reserved u kind) = kind
kind_of (ValueName n) = k.Name
kind_of (TypeName n) = k.Name
kind_of (Number z) = number_kind z
kind_of (Sign b kind) = kind
kind_of (Pair a b kind) = kind
kind_of (Spaced b kind) = kind
kind_of (Blank b) = k.Name

-- what must follow a lexeme
abbrev pub Ended : Lexeme → List ℕ → Type 0
Ended (Reserved u kind) r = Stops r
Ended (ValueName n) r = Stops r
Ended (TypeName n) r = Stops r
Ended (Number z) r = Stops r
Ended _ r = Unit {0}

-- the length of its token
abbrev pub width : Lexeme → ℕ
width (Spaced b kind) = 1
width l = length (bytes l)

abbrev item_of : Lexeme → Item Kind
item_of (Blank b) = Gap 1
item_of l = Spelling (kind_of l) (width l)

pub lexeme_item : (l : Lexeme) (r : List ℕ) → Valid l → Ended l r → item source (bytes l ++ r) ≡ item_of l
lexeme_item (Reserved u kind) r v s = reserved_item u r v.0 s ∙ ap (λ x. Spelling x (length u)) v.1
lexeme_item (ValueName n) r v s = word_item 120 (decimal n) r refl (digits_of_word (decimal n) (are_digits n v)) s
    ∙ ap (λ x. Spelling x (length (120 ∷ decimal n))) (value_word (decimal n))
lexeme_item (TypeName n) r v s = word_item 116 (decimal n) r refl (digits_of_word (decimal n) (are_digits n v)) s ∙ ap
    (λ x. Spelling x (length (116 ∷ decimal n))) (type_word (decimal n))
lexeme_item (Number (pos n)) r v s =
    let h : n < 2 ^ 64 = omega (arith, ints, v.1) in
    plain_item (decimal n) r (decimal_nonempty n h) (are_digits n h) s ∙ ap
    (λ m. Spelling (k.Plain (pos m)) (length (decimal n))) (value_is n h)
lexeme_item (Number (negsuc n)) r v s =
    let h : suc n < 2 ^ 64 = omega (arith, ints, v.0) in
    let long : 1 + length (decimal (suc n)) ≡ length (126 ∷ decimal (suc n)) = omega arith in
    negative_item (decimal (suc n)) r (decimal_nonempty (suc n) h) (are_digits (suc n) h) s ∙ ap
    (λ m. Spelling (k.Negative (neg_ℤ (pos m))) (1 + length (decimal (suc n)))) (value_is (suc n) h)
    ∙ ap (λ m. Spelling (k.Negative (negsuc n)) m) long
lexeme_item (Sign b kind) r v s = sign_read b r kind v.0 v.1
lexeme_item (Pair a b kind) r v s = v.1 r
lexeme_item (Spaced b kind) r v s = v.1 r
lexeme_item (Blank b) r v s = rw v refl

pub lexeme_keeps : (l : Lexeme) → Valid l → Keeps (kind_of l)
lexeme_keeps (Reserved u kind) v = v.2
lexeme_keeps (ValueName n) v = tt
lexeme_keeps (TypeName n) v = tt
lexeme_keeps (Number (pos n)) v = v.1
lexeme_keeps (Number (negsuc n)) v = v.0
lexeme_keeps (Sign b kind) v = v.2
lexeme_keeps (Pair a b kind) v = v.2
lexeme_keeps (Spaced b kind) v = v.2
lexeme_keeps (Blank b) v = tt
