-- What `clap`'s reader of whole numbers takes is a number, and `get_one` reads that number.
use Rattle.std.proofs.Common.{◌≡◌, ◌≤◌, ℕ, Bool, true, false, [], Option, Some, None, IsSome, MatchOption}
use Rattle.std.proofs.Common.{option_and_then, Result, Ok, Err, refl, ap, arith}
use Rattle.std.specs.Str.Parse.{ParsesUnsigned, digits_value, without_leading_plus}
use Rattle.clap.specs.Words.{ReadsOne, Text}
use Rattle.clap.specs.Kinds.{value_kinds}
use Rattle.clap.specs.ValueTests.{accepts}
use Rattle.clap.proofs.ValueTestLemmas.{Accepts-accepts, accepts-Accepts}
use Rattle.talc_words.specs.Command.{number_of}
use Rattle.clap.specs.declared.builder.value_parser.ValueParser.TheVariants.{Unsigned}
use Rattle.talc_words.specs.Description.{whole_number}

-- a text that the reader takes is a number's
pub taken_number : (text : Text) → value_kinds false whole_number text ≡ [] → IsSome (number_of text)
taken_number text none = go (accepts false whole_number text) refl
  where
    go : (b : Bool) → accepts false whole_number text ≡ b → IsSome (number_of text)
    go true is = rw is refl
    go false is = let bad = rw is at none in cc

-- the number that is read is that of the text
pub number_read : (E : Type 0) (gives : Text → Result ℕ E → Type 0) →
    ((text : Text) (r : Result ℕ E) → gives text r → ParsesUnsigned 64 10 text r)
    → (text : Option Text) (read : Option ℕ) → (text ≡ None → read ≡ None) →
    ((t : Text) → text ≡ Some t → ReadsOne gives t read) → read ≡ option_and_then number_of text
number_read E gives parses None read none some = none refl
number_read E gives parses (Some t) (Some n) none some =
    let parsed = parses t (Ok n) (some t refl) in
    let least : 0 ≤ digits_value 10 (without_leading_plus t) = omega arith in
    let most : digits_value 10 (without_leading_plus t) ≤ 18446744073709551615 = omega (arith, parsed.0.1) in
    let takes : accepts false whole_number t ≡ true =
    Accepts-accepts false whole_number t (parsed.0.0, parsed.0.1, least, most) in
    rw takes (ap Some parsed.1)
number_read E gives parses (Some t) None none some = go (accepts false whole_number t) refl
  where
    go : (b : Bool) → accepts false whole_number t ≡ b → None ≡ number_of t
    go true is =
        let read = some t refl in
        let is_one = accepts-Accepts false whole_number t is in
        absurd (parses t (Err read.0) read.1 (is_one.0, is_one.1))
    go false is = rw is refl

-- the number lies between two others
abbrev pub IsBetween : ℕ → ℕ → ℕ → Type 0
IsBetween low high k = (low ≤ k) × (k ≤ high)

-- a text that a reader of numbers from one to another takes is that of such a number
pub taken_between : (low high : ℕ) (text : Text) → value_kinds false (Unsigned low high) text ≡ [] →
    MatchOption (number_of text) ⊥ (IsBetween low high)
taken_between low high text none = go (accepts false (Unsigned low high) text) refl
  where
    go : (b : Bool) → accepts false (Unsigned low high) text ≡ b → MatchOption (number_of text) ⊥ (IsBetween low high)
    go true is =
        let is_one = accepts-Accepts false (Unsigned low high) text is in
        let least : 0 ≤ digits_value 10 (without_leading_plus text) = omega arith in
        let most : digits_value 10 (without_leading_plus text) ≤ 18446744073709551615 = omega (arith, is_one.1) in
        let takes : accepts false whole_number text ≡ true =
        Accepts-accepts false whole_number text (is_one.0, is_one.1, least, most) in
        rw takes (is_one.2, is_one.3)
    go false is = let bad = rw is at none in cc
