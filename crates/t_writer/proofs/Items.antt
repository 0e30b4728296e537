-- What stands at the start of written bytes: each lexeme is one item, where what follows it ends it.
use Rattle.std.proofs.Common.{◌≡◌, ◌≤◌, ◌<◌, ◌^◌, ℕ, suc, ◌+◌, List, [], ◌∷◌, ◌++◌, length, take, drop, Bool, true}
use Rattle.std.proofs.Common.{false, ◌&&◌, ◌||◌, not, ◌==◌, refl, ap, ◌∙◌, arith, ℤ, pos, negsuc, neg_ℤ, decimal}
use Rattle.std.proofs.Common.{Option, None, Some, is_some}
use Rattle.std.specs.List.{prefix_len, list_all}
use Rattle.std.proofs.lemmas.Bool.{and_parts}
use Rattle.std.proofs.lemmas.Bool.Decides.{nat_tests}
use Rattle.std.proofs.lemmas.Int.{ints}
use Rattle.std.proofs.lemmas.Fmt.{decimal_nonempty}
use Rattle.std.proofs.Math.Seq.{take-append_seam}
use Rattle.text_core.specs.Byte.{space, digit, letter, of_word, value}
use Rattle.text_core.specs.Tokens.{Item, Gap, Spelling, look}
use Rattle.text_core.specs.Lexeme.{Piece, PWord, PPlain, PNegative, POther, piece, of_piece}
use Rattle.text_core.specs.Lexeme.{sign_item, item}
use Rattle.t_types.specs.WellFormed.{IsRegister}
use Rattle.t_text.specs.declared.token.Kind.{Kind}
use Rattle.t_text.specs.declared.token.Kind.TheVariants as k
use Rattle.t_text.specs.Tokens.{assembly, Keeps, word, signs}
use Rattle.t_terms.specs.Whole.{IntFits}
use Rattle.t_writer.specs.Lexeme.{Lexeme, Reserved, TypeName, LabelName, DataName, Register, Number, Digit, Sign}
use Rattle.t_writer.specs.Lexeme.{Blank, bytes}
use Rattle.text_core.proofs.Characters.{AreDigits, is_digit, are_digits, value_is, Stops, run_digits, run_word}
use Rattle.text_core.proofs.Characters.{no_dashes, no_tilde, digit_no_space, digit_no_dash, digit_no_letter}
use Rattle.text_core.proofs.Characters.{letter_no_space, letter_no_dash, digits_of_word}

-- a word
word_item : (b : ℕ) (u r : List ℕ) → letter b ≡ true → list_all of_word u ≡ true → Stops r →
    item assembly (b ∷ (u ++ r)) ≡ Spelling (word (b ∷ u)) (length (b ∷ u))
word_item b u r l h s =
    let n : 1 + prefix_len of_word (u ++ r) ≡ length (b ∷ u) = ap (λ n. 1 + n) (run_word u r h s) ∙ omega arith in
    let p : piece (b ∷ (u ++ r)) ≡ PWord (1 + prefix_len of_word (u ++ r)) =
    rw (letter_no_space b l, no_dashes b (u ++ r) (letter_no_dash b l), l) refl in
    ap (λ (x : Piece). of_piece assembly (b ∷ (u ++ r)) x) (p ∙ ap PWord n)
    ∙ ap (λ v. Spelling (word v) (length (b ∷ u))) (take-append_seam (b ∷ u) r)

-- digits, and a tilde with digits
plain_item : (ds r : List ℕ) → 0 < length ds → AreDigits ds → Stops r →
    item assembly (ds ++ r) ≡ Spelling (k.Plain (pos (value ds))) (length ds)
plain_item [] r some h s = absurd (omega arith)
plain_item (d ∷ ds) r some h s =
    let q = and_parts (digit d) (list_all digit ds) h in
    let n : 1 + prefix_len digit (ds ++ r) ≡ length (d ∷ ds) = ap (λ n. 1 + n) (run_digits ds r q.1 s) ∙ omega arith in
    let p : piece (d ∷ (ds ++ r)) ≡ PPlain (1 + prefix_len digit (ds ++ r)) =
    rw (digit_no_space d q.0, no_dashes d (ds ++ r) (digit_no_dash d q.0), digit_no_letter d q.0, q.0) refl in
    ap (λ (x : Piece). of_piece assembly (d ∷ (ds ++ r)) x) (p ∙ ap PPlain n)
    ∙ ap (λ u. Spelling (k.Plain (pos (value u))) (length (d ∷ ds))) (take-append_seam (d ∷ ds) r)

negative_item : (ds r : List ℕ) → 0 < length ds → AreDigits ds → Stops r →
    item assembly (126 ∷ (ds ++ r)) ≡ Spelling (k.Negative (neg_ℤ (pos (value ds)))) (1 + length ds)
negative_item [] r some h s = absurd (omega arith)
negative_item (d ∷ ds) r some h s =
    let q = and_parts (digit d) (list_all digit ds) h in
    let n : prefix_len digit (d ∷ ds ++ r) ≡ length (d ∷ ds) = run_digits (d ∷ ds) r h s in
    let p : piece (126 ∷ (d ∷ (ds ++ r))) ≡ PNegative (1 + prefix_len digit (d ∷ ds ++ r)) = rw q.0 refl in
    ap (λ (x : Piece). of_piece assembly (126 ∷ (d ∷ (ds ++ r))) x) (p ∙ ap (λ n. PNegative (1 + n)) n)
    ∙ ap (λ u. Spelling (k.Negative (neg_ℤ (pos (value u)))) (1 + length (d ∷ ds))) (take_more d ds r)
  where
    take_more : (d : ℕ) (ds r : List ℕ) → drop 1 (take (1 + length (d ∷ ds)) (126 ∷ (d ∷ (ds ++ r)))) ≡ d ∷ ds
    take_more d ds r =
        let e : 1 + length (d ∷ ds) ≡ length (126 ∷ (d ∷ ds)) = omega arith in
        ap (drop 1) (ap (λ n. take n (126 ∷ (d ∷ (ds ++ r)))) e ∙ take-append_seam (126 ∷ (d ∷ ds)) r)

-- a byte that begins no gap, word or number
abbrev plain_sign : ℕ → Bool
plain_sign b = not (space b || of_word b || b == 45 || b == 126)

other_piece : (b : ℕ) (s : List ℕ) → plain_sign b ≡ true → piece (b ∷ s) ≡ POther
other_piece b s e =
    let p : space b ≡ false = grind (arith, nat_tests) in
    let q : letter b ≡ false = grind (arith, nat_tests) in
    let d : digit b ≡ false = grind (arith, nat_tests) in
    let m : (b == 45) ≡ false = grind (arith, nat_tests) in
    let t : (b == 126) ≡ false = grind (arith, nat_tests) in
    rw (p, no_dashes b s m, q, d, no_tilde b s t) refl

sign_is : (b : ℕ) (s : List ℕ) (x : Kind) → look signs b ≡ Some x → sign_item assembly (b ∷ s) ≡ Spelling x 1
sign_is b [] x e = rw e refl
sign_is b (c ∷ s) x e = rw e refl

sign_read : (b : ℕ) (s : List ℕ) (x : Kind) → plain_sign b ≡ true → look signs b ≡ Some x →
    item assembly (b ∷ s) ≡ Spelling x 1
sign_read b s x p e = ap (λ (y : Piece). of_piece assembly (b ∷ s) y) (other_piece b s p) ∙ sign_is b s x e

-- the word of a name, and of a register
register_word : (n : ℕ) → n < 2 ^ 64 → word (114 ∷ decimal n) ≡ k.Register n
register_word n h =
    of_digits (decimal n) (decimal_nonempty n h) (are_digits n h) ∙ ap (λ m. k.Register m) (value_is n h)
  where
    of_digits : (ds : List ℕ) → 0 < length ds → AreDigits ds → word (114 ∷ ds) ≡ k.Register (value ds)
    of_digits [] some e = absurd (omega arith)
    of_digits (d ∷ ds) some e = rw e refl

type_word : (ds : List ℕ) → word (84 ∷ ds) ≡ k.Name
type_word [] = refl
type_word (d ∷ ds) = refl

label_word : (ds : List ℕ) → word (76 ∷ ds) ≡ k.Name
label_word [] = refl
label_word (d ∷ ds) = refl

data_word : (ds : List ℕ) → word (68 ∷ ds) ≡ k.Name
data_word [] = refl
data_word (d ∷ ds) = refl

-- a reserved word by its bytes
abbrev pub is_word : List ℕ → Bool
is_word [] = false
is_word (b ∷ s) = letter b && list_all of_word s

reserved_item : (u r : List ℕ) → is_word u ≡ true → Stops r → item assembly (u ++ r) ≡ Spelling (word u) (length u)
reserved_item [] r h s = absurd (cc)
reserved_item (b ∷ u) r h s = let p = and_parts (letter b) (list_all of_word u) h in word_item b u r p.0 p.1 s

-- a sign by its byte
abbrev is_sign : ℕ → Bool
is_sign b = plain_sign b && is_some (look signs b)

-- its kind, of its row of the table
abbrev sign_kind : Option Kind → Kind
sign_kind None = k.Name
sign_kind (Some x) = x

some_kind : (x : Option Kind) → is_some x ≡ true → x ≡ Some (sign_kind x)
some_kind None e = absurd (cc)
some_kind (Some x) e = refl

-- lexemes that may be written
abbrev pub Valid : Lexeme → Type 0
Valid (Reserved u) = (is_word u ≡ true) × Keeps (word u)
Valid (TypeName n) = n < 2 ^ 64
Valid (LabelName n) = n < 2 ^ 64
Valid (DataName n) = n < 2 ^ 64
Valid (Register r) = IsRegister r
Valid (Number z) = IntFits z
Valid (Digit n) = n ≤ 9
Valid (Sign b) = (is_sign b ≡ true) × Keeps (sign_kind (look signs b))
Valid (Blank b) = space b ≡ true

-- the kind of the token that a number is
abbrev number_kind : ℤ → Kind
number_kind (pos n) = k.Plain (pos n)
number_kind (negsuc n) = k.Negative (negsuc n)

-- the kind of a lexeme's token
abbrev pub kind_of : Lexeme → Kind
kind_of (Reserved u) = word u
kind_of (TypeName n) = k.Name
kind_of (LabelName n) = k.Name
kind_of (DataName n) = k.Name
kind_of (Register r) = k.Register r
kind_of (Number z) = number_kind z
kind_of (Digit n) = k.Plain (pos n)
kind_of (Sign b) = sign_kind (look signs b)
kind_of (Blank b) = k.Data

-- what must follow a lexeme
abbrev pub Ended : Lexeme → List ℕ → Type 0
Ended (Sign b) r = Unit {0}
Ended (Blank b) r = Unit {0}
Ended _ r = Stops r

abbrev item_of : Lexeme → Item Kind
item_of (Blank b) = Gap 1
item_of l = Spelling (kind_of l) (length (bytes l))

digit_value : (n : ℕ) → n ≤ 9 → value ((48 + n) ∷ []) ≡ n
digit_value n h = omega arith

pub lexeme_item : (l : Lexeme) (r : List ℕ) → Valid l → Ended l r → item assembly (bytes l ++ r) ≡ item_of l
lexeme_item (Reserved u) r v s = reserved_item u r v.0 s
lexeme_item (TypeName n) r v s = word_item 84 (decimal n) r refl (digits_of_word (decimal n) (are_digits n v)) s
    ∙ ap (λ x. Spelling x (length (84 ∷ decimal n))) (type_word (decimal n))
lexeme_item (LabelName n) r v s = word_item 76 (decimal n) r refl (digits_of_word (decimal n) (are_digits n v)) s
    ∙ ap (λ x. Spelling x (length (76 ∷ decimal n))) (label_word (decimal n))
lexeme_item (DataName n) r v s = word_item 68 (decimal n) r refl (digits_of_word (decimal n) (are_digits n v)) s
    ∙ ap (λ x. Spelling x (length (68 ∷ decimal n))) (data_word (decimal n))
lexeme_item (Register n) r v s =
    let h : n < 2 ^ 64 = omega (arith, v.1) in
    word_item 114 (decimal n) r refl (digits_of_word (decimal n) (are_digits n h)) s
    ∙ ap (λ x. Spelling x (length (114 ∷ decimal n))) (register_word n h)
lexeme_item (Number (pos n)) r v s =
    let h : n < 2 ^ 64 = omega (arith, v) in
    plain_item (decimal n) r (decimal_nonempty n h) (are_digits n h) s
    ∙ ap (λ m. Spelling (k.Plain (pos m)) (length (decimal n))) (value_is n h)
lexeme_item (Number (negsuc n)) r v s =
    let h : suc n < 2 ^ 64 = omega (arith, v) in
    let long : 1 + length (decimal (suc n)) ≡ length (126 ∷ decimal (suc n)) = omega arith in
    negative_item (decimal (suc n)) r (decimal_nonempty (suc n) h) (are_digits (suc n) h) s
    ∙ ap (λ m. Spelling (k.Negative (neg_ℤ (pos m))) (1 + length (decimal (suc n)))) (value_is (suc n) h)
    ∙ ap (λ m. Spelling (k.Negative (negsuc n)) m) long
lexeme_item (Digit n) r v s =
    let d : digit (48 + n) ≡ true = is_digit (48 + n) (omega arith) (omega arith) in
    plain_item ((48 + n) ∷ []) r (omega arith) (rw d refl) s ∙ ap (λ m. Spelling (k.Plain (pos m)) 1) (digit_value n v)
lexeme_item (Sign b) r v s =
    let p = and_parts (plain_sign b) (is_some (look signs b)) v.0 in
    sign_read b r (kind_of (Sign b)) p.0 (some_kind (look signs b) p.1)
lexeme_item (Blank b) r v s = rw v refl

-- a sign ends a word
pub sign_stops : (b : ℕ) → Valid (Sign b) → of_word b ≡ false
sign_stops b v = go b (and_parts (plain_sign b) (is_some (look signs b)) v.0).0
  where
    go : (b : ℕ) → plain_sign b ≡ true → of_word b ≡ false
    go b h = grind (arith, nat_tests)

pub lexeme_keeps : (l : Lexeme) → Valid l → Keeps (kind_of l)
lexeme_keeps (Reserved u) v = v.1
lexeme_keeps (TypeName n) v = tt
lexeme_keeps (LabelName n) v = tt
lexeme_keeps (DataName n) v = tt
lexeme_keeps (Register r) v = v
lexeme_keeps (Number (pos n)) v = omega (arith, ints, v)
lexeme_keeps (Number (negsuc n)) v = omega (arith, ints, v)
lexeme_keeps (Digit n) v = omega (arith, ints)
lexeme_keeps (Sign b) v = v.1
lexeme_keeps (Blank b) v = tt
