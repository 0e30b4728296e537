-- That no sentence is longer than 100 bytes, and worked hints.
use Rattle.std.proofs.Common.{◌≡◌, ℕ, List, [], ◌∷◌, length, refl, true, false, Bool}
use Rattle.std.specs.Prelude.{nat_le, ◌&&◌, if◌then◌else◌, codes}
use Rattle.idx_core.specs.declared.span.Span.{Span}
use Rattle.f_terms.specs.declared.fault.Code.{Code}
use Rattle.f_terms.specs.declared.fault.Code.TheVariants.{E01, E02, E03, E04, E05, E06, E07, E08, E09, E10}
use Rattle.f_terms.specs.declared.fault.Code.TheVariants.{E11, E12, E13, E14, E15, E16, E17, E18}
use Rattle.f_terms.specs.declared.fault.Code.TheVariants.{E19, E21, E22, L1, L2, L3, L4, L5}
use Rattle.t_terms.specs.declared.fault.TCode.{TCode}
use Rattle.t_terms.specs.declared.fault.TCode.TheVariants.{T01, T02, T03, T04, T05, T06, T07, T08, T09, T10}
use Rattle.t_terms.specs.declared.fault.TCode.TheVariants.{T11, T12, T13, T14, T15, T16, T17, T18, T19, T20, M1}
use Rattle.talc_faults.specs.declared.type_form.Form.{Form}
use Rattle.talc_faults.specs.declared.type_form.Form.TheVariants.{Untold}
use Rattle.talc_faults.specs.Choice.{Place, Tests, all_hold, pick}
use Rattle.talc_faults.specs.Sentences.{source_sentence, tal_sentence}
use Rattle.talc_faults.specs.Hints.{first_rows, source_rows, last_rows, first_tal_rows, tal_rows}
use Rattle.talc_faults.specs.Hints.{place_of, source_kind, source_hint_at, tal_hint_at}
use Rattle.talc_faults.specs.Around.{bytes_at}

-- a sentence of at most 100 bytes
abbrev IsShort : List ℕ → Type 0
IsShort sentence = nat_le (length sentence) 100 ≡ true

source_sentence_is_short : (code : Code) → IsShort (source_sentence code)
source_sentence_is_short E01 = refl
source_sentence_is_short E02 = refl
source_sentence_is_short E03 = refl
source_sentence_is_short E04 = refl
source_sentence_is_short E05 = refl
source_sentence_is_short E06 = refl
source_sentence_is_short E07 = refl
source_sentence_is_short E08 = refl
source_sentence_is_short E09 = refl
source_sentence_is_short E10 = refl
source_sentence_is_short E11 = refl
source_sentence_is_short E12 = refl
source_sentence_is_short E13 = refl
source_sentence_is_short E14 = refl
source_sentence_is_short E15 = refl
source_sentence_is_short E16 = refl
source_sentence_is_short E17 = refl
source_sentence_is_short E18 = refl
source_sentence_is_short E19 = refl
source_sentence_is_short E21 = refl
source_sentence_is_short E22 = refl
source_sentence_is_short L1 = refl
source_sentence_is_short L2 = refl
source_sentence_is_short L3 = refl
source_sentence_is_short L4 = refl
source_sentence_is_short L5 = refl

tal_sentence_is_short : (code : TCode) → IsShort (tal_sentence code)
tal_sentence_is_short T01 = refl
tal_sentence_is_short T02 = refl
tal_sentence_is_short T03 = refl
tal_sentence_is_short T04 = refl
tal_sentence_is_short T05 = refl
tal_sentence_is_short T06 = refl
tal_sentence_is_short T07 = refl
tal_sentence_is_short T08 = refl
tal_sentence_is_short T09 = refl
tal_sentence_is_short T10 = refl
tal_sentence_is_short T11 = refl
tal_sentence_is_short T12 = refl
tal_sentence_is_short T13 = refl
tal_sentence_is_short T14 = refl
tal_sentence_is_short T15 = refl
tal_sentence_is_short T16 = refl
tal_sentence_is_short T17 = refl
tal_sentence_is_short T18 = refl
tal_sentence_is_short T19 = refl
tal_sentence_is_short T20 = refl
tal_sentence_is_short M1 = refl

-- rows whose sentences all are
abbrev all_short : List (Tests × List ℕ) → Bool
all_short [] = true
all_short (r ∷ rest) = nat_le (length r.1) 100 && all_short rest

first : (a b : Bool) → (a && b) ≡ true → a ≡ true
first true b h = refl
first false b h = h

second : (a b : Bool) → (a && b) ≡ true → b ≡ true
second true b h = h
second false b h = absurd (cc h)

either : (b : Bool) (x y : List ℕ) → IsShort x → IsShort y → IsShort (if b then x else y)
either true x y h k = h
either false x y h k = k

picked : (p : Place) (rows : List (Tests × List ℕ)) (otherwise : List ℕ) → all_short rows ≡ true →
    IsShort otherwise → IsShort (pick p rows otherwise)
picked p [] otherwise h k = k
picked p (r ∷ rest) otherwise h k =
    either (all_hold p r.0) r.1 (pick p rest otherwise) (first (nat_le (length r.1) 100) (all_short rest) h)
    (picked p rest otherwise (second (nat_le (length r.1) 100) (all_short rest) h) k)

source_rows_are_short : (code : Code) → all_short (source_rows code) ≡ true
source_rows_are_short E01 = refl
source_rows_are_short E02 = refl
source_rows_are_short E03 = refl
source_rows_are_short E04 = refl
source_rows_are_short E05 = refl
source_rows_are_short E06 = refl
source_rows_are_short E07 = refl
source_rows_are_short E08 = refl
source_rows_are_short E09 = refl
source_rows_are_short E10 = refl
source_rows_are_short E11 = refl
source_rows_are_short E12 = refl
source_rows_are_short E13 = refl
source_rows_are_short E14 = refl
source_rows_are_short E15 = refl
source_rows_are_short E16 = refl
source_rows_are_short E17 = refl
source_rows_are_short E18 = refl
source_rows_are_short E19 = refl
source_rows_are_short E21 = refl
source_rows_are_short E22 = refl
source_rows_are_short L1 = refl
source_rows_are_short L2 = refl
source_rows_are_short L3 = refl
source_rows_are_short L4 = refl
source_rows_are_short L5 = refl

first_rows_are_short : (code : Code) → all_short (first_rows code) ≡ true
first_rows_are_short E01 = refl
first_rows_are_short E02 = refl
first_rows_are_short E03 = refl
first_rows_are_short E04 = refl
first_rows_are_short E05 = refl
first_rows_are_short E06 = refl
first_rows_are_short E07 = refl
first_rows_are_short E08 = refl
first_rows_are_short E09 = refl
first_rows_are_short E10 = refl
first_rows_are_short E11 = refl
first_rows_are_short E12 = refl
first_rows_are_short E13 = refl
first_rows_are_short E14 = refl
first_rows_are_short E15 = refl
first_rows_are_short E16 = refl
first_rows_are_short E17 = refl
first_rows_are_short E18 = refl
first_rows_are_short E19 = refl
first_rows_are_short E21 = refl
first_rows_are_short E22 = refl
first_rows_are_short L1 = refl
first_rows_are_short L2 = refl
first_rows_are_short L3 = refl
first_rows_are_short L4 = refl
first_rows_are_short L5 = refl

last_rows_are_short : (code : Code) → all_short (last_rows code) ≡ true
last_rows_are_short E01 = refl
last_rows_are_short E02 = refl
last_rows_are_short E03 = refl
last_rows_are_short E04 = refl
last_rows_are_short E05 = refl
last_rows_are_short E06 = refl
last_rows_are_short E07 = refl
last_rows_are_short E08 = refl
last_rows_are_short E09 = refl
last_rows_are_short E10 = refl
last_rows_are_short E11 = refl
last_rows_are_short E12 = refl
last_rows_are_short E13 = refl
last_rows_are_short E14 = refl
last_rows_are_short E15 = refl
last_rows_are_short E16 = refl
last_rows_are_short E17 = refl
last_rows_are_short E18 = refl
last_rows_are_short E19 = refl
last_rows_are_short E21 = refl
last_rows_are_short E22 = refl
last_rows_are_short L1 = refl
last_rows_are_short L2 = refl
last_rows_are_short L3 = refl
last_rows_are_short L4 = refl
last_rows_are_short L5 = refl

first_tal_rows_are_short : (code : TCode) → all_short (first_tal_rows code) ≡ true
first_tal_rows_are_short T01 = refl
first_tal_rows_are_short T02 = refl
first_tal_rows_are_short T03 = refl
first_tal_rows_are_short T04 = refl
first_tal_rows_are_short T05 = refl
first_tal_rows_are_short T06 = refl
first_tal_rows_are_short T07 = refl
first_tal_rows_are_short T08 = refl
first_tal_rows_are_short T09 = refl
first_tal_rows_are_short T10 = refl
first_tal_rows_are_short T11 = refl
first_tal_rows_are_short T12 = refl
first_tal_rows_are_short T13 = refl
first_tal_rows_are_short T14 = refl
first_tal_rows_are_short T15 = refl
first_tal_rows_are_short T16 = refl
first_tal_rows_are_short T17 = refl
first_tal_rows_are_short T18 = refl
first_tal_rows_are_short T19 = refl
first_tal_rows_are_short T20 = refl
first_tal_rows_are_short M1 = refl

tal_rows_are_short : (code : TCode) → all_short (tal_rows code) ≡ true
tal_rows_are_short T01 = refl
tal_rows_are_short T02 = refl
tal_rows_are_short T03 = refl
tal_rows_are_short T04 = refl
tal_rows_are_short T05 = refl
tal_rows_are_short T06 = refl
tal_rows_are_short T07 = refl
tal_rows_are_short T08 = refl
tal_rows_are_short T09 = refl
tal_rows_are_short T10 = refl
tal_rows_are_short T11 = refl
tal_rows_are_short T12 = refl
tal_rows_are_short T13 = refl
tal_rows_are_short T14 = refl
tal_rows_are_short T15 = refl
tal_rows_are_short T16 = refl
tal_rows_are_short T17 = refl
tal_rows_are_short T18 = refl
tal_rows_are_short T19 = refl
tal_rows_are_short T20 = refl
tal_rows_are_short M1 = refl

source_hint_is_short : (text : List ℕ) (code : Code) (span : Span) (told : List ℕ) (form : Form) →
    IsShort (source_hint_at text code span told form)
source_hint_is_short text code span told form =
    let kind = source_kind text (bytes_at text 0 span.start) (bytes_at text span.start span.end) code form in
    let place = place_of text span told kind in
    picked place (first_rows code) (pick place (source_rows code) (pick place (last_rows code) (source_sentence code)))
    (first_rows_are_short code)
    (picked place (source_rows code) (pick place (last_rows code) (source_sentence code)) (source_rows_are_short code)
    (picked place (last_rows code) (source_sentence code) (last_rows_are_short code) (source_sentence_is_short code)))

tal_hint_is_short : (text : List ℕ) (code : TCode) (span : Span) (told : List ℕ) →
    IsShort (tal_hint_at text code span told)
tal_hint_is_short text code span told =
    let place = place_of text span told [] in
    picked place (first_tal_rows code) (pick place (tal_rows code) (tal_sentence code)) (first_tal_rows_are_short code)
    (picked place (tal_rows code) (tal_sentence code) (tal_rows_are_short code) (tal_sentence_is_short code))

-- ---- worked hints

-- of `f ()` at the `)`
empty : source_hint_at (codes "f ()") E03 (record { start = 3; end = 4 }) [] Untold
    ≡ codes "the empty tuple is `<>`: `f <>` calls f with it"
empty = refl

-- of a name in its own `let`
own : source_hint_at (codes "let f = f in 1") E05 (record { start = 8; end = 9 }) [] Untold
    ≡ codes "the function that calls itself is the `fix`: a `let` is not seen in its own value"
own = refl

-- of a comma in the brackets of a `fix`, behind a comment with a bracket
argument : source_hint_at (codes "fix f(x:int -- (\n, y") E03 (record { start = 17; end = 18 }) [] Untold
    ≡ codes "a `fix` has one argument: a tuple, as in `fix f(p:<T1, T2>):T3. e`, or a `fix` in its body"
argument = refl

-- of a block's end that is missing
cut_short : tal_hint_at (codes "tal 2\nL0: code[]{}.") T03 (record { start = 19; end = 19 }) []
    ≡ codes "the text ends too early: a block ends with `jmp` or `halt[int]`"
cut_short = refl
