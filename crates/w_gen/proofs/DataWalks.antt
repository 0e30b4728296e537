-- The loops over the data of a program.
use Rattle.std.proofs.Common.{◌≡◌, ℕ, suc, ◌+◌, List, [], ◌∷◌, ◌++◌, length, map, refl, sym, ap, ap₂, ◌∙◌, arith}
use Rattle.std.proofs.Common.{append_assoc}
use Rattle.std.proofs.lemmas.List.{length-map}
use Rattle.idx_core.specs.declared.span.Span.{Span}
use Rattle.t_types.specs.declared.types.TType.{TType}
use Rattle.t_terms.specs.Spanned.{plain_fields}
use Rattle.t_terms.specs.Read.{value, data_fields, data_of}
use Rattle.t_terms.specs.declared.value.Value.{Value}
use Rattle.t_terms.specs.declared.data.Data.{Data}
use Rattle.t_rules.specs.Erase.{erase_value, erase_datum, field_word, base_word, no_ewords}
use Rattle.w_terms.specs.declared.program.WDatum.{WDatum}
use Rattle.w_terms.specs.declared.program.WDatum.TheVariants as D
use Rattle.w_rooms.specs.Numbers.{bytes}
use Rattle.w_laws.specs.Code.{datum, data_size, data_words}
use Rattle.w_gen.specs.Data.{addresses_of}

count : (fs : List (Value × TType × Span)) → length (plain_fields (data_fields fs)) ≡ length fs
count [] = refl
count (f ∷ fs) = ap suc (count fs)

pub addresses_go : (ps qs : List ℕ) (next first after : ℕ) (ys xs : List Data) (x : Data) (all : List ℕ) →
    ps ++ addresses_of next (data_of ys) ≡ all → ys ≡ x ∷ xs → first ≡ next + 8 → qs ≡ ps ++ first ∷ [] →
    after ≡ next + bytes (length x.fields.items) → qs ++ addresses_of after (data_of xs) ≡ all
addresses_go ps qs next first after ys xs x all inv is f q a =
    let long = count x.fields.items in
    ap₂ (λ y z. y ++ addresses_of z (data_of xs)) (q ∙ ap (λ y. ps ++ y ∷ []) f)
    (a ∙ ap (λ n. next + bytes n) (sym long))
    ∙ append_assoc ps ((next + 8) ∷ []) _
    ∙ ap (λ (y : List Data). ps ++ addresses_of next (data_of y)) (sym is) ∙ inv

-- the words of fields, and of tuples
abbrev pub field_words : (ℕ → ℕ) → List (Value × TType × Span) → List WDatum
field_words at fs = map (datum at) (map erase_datum (plain_fields (data_fields fs)))

abbrev pub heap_words : (ℕ → ℕ) → List Data → List WDatum
heap_words at xs = data_words at (map (map erase_datum) (data_of xs))

pub fields_go : (at : ℕ → ℕ) (im jm : List WDatum) (ys xs : List (Value × TType × Span)) (x : Value × TType × Span)
    (w : WDatum) (all : List WDatum) → im ++ field_words at ys ≡ all → ys ≡ x ∷ xs →
    w ≡ datum at (field_word (base_word no_ewords (erase_value (value x.0)))) → jm ≡ im ++ w ∷ [] →
    jm ++ field_words at xs ≡ all
fields_go at im jm ys xs x w all inv is e j =
    ap (λ y. y ++ field_words at xs) (j ∙ ap (λ y. im ++ y ∷ []) e)
    ∙ append_assoc im (datum at (field_word (base_word no_ewords (erase_value (value x.0)))) ∷ []) (field_words at xs)
    ∙ ap (λ (y : List (Value × TType × Span)). im ++ field_words at y) (sym is) ∙ inv

pub words_go : (at : ℕ → ℕ) (im jm : List WDatum) (ys xs : List Data) (x : Data) (all : List WDatum) →
    im ++ heap_words at ys ≡ all → ys ≡ x ∷ xs →
    jm ≡ im ++ D.Number (length x.fields.items) ∷ field_words at x.fields.items → jm ++ heap_words at xs ≡ all
words_go at im jm ys xs x all inv is j =
    let long = length-map (plain_fields (data_fields x.fields.items)) erase_datum ∙ count x.fields.items in
    ap (λ y. y ++ heap_words at xs) (j ∙ ap (λ n. im ++ D.Number n ∷ field_words at x.fields.items) (sym long))
    ∙ append_assoc im (D.Number (length (map erase_datum (plain_fields (data_fields x.fields.items))))
    ∷ field_words at x.fields.items) (heap_words at xs)
    ∙ ap (λ (y : List Data). im ++ heap_words at y) (sym is) ∙ inv

-- the number of words of all tuples
pub sizes_go : (old new n : ℕ) (ys xs : List Data) (x : Data) (all : ℕ) →
    old + data_size (map (map erase_datum) (data_of ys)) ≡ all → ys ≡ x ∷ xs → n ≡ length x.fields.items + 1 →
    new ≡ old + n → new + data_size (map (map erase_datum) (data_of xs)) ≡ all
sizes_go old new n ys xs x all inv is e s =
    let long = length-map (plain_fields (data_fields x.fields.items)) erase_datum ∙ count x.fields.items in
    let step : data_size (map (map erase_datum) (data_of ys))
    ≡ length (map erase_datum (plain_fields (data_fields x.fields.items))) + 1
    + data_size (map (map erase_datum) (data_of xs))
    = ap (λ (zs : List Data). data_size (map (map erase_datum) (data_of zs))) is in
    omega (arith, inv, step, long, e, s)
