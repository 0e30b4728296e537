-- Walks over pieces.
use Rattle.std.proofs.Common.{◌≡◌, ◌<◌, ◌≤◌, ℕ, ◌+◌, List, [], ◌∷◌, ◌++◌, length, get_or, take, ap, ap₂, ◌∙◌, sym}
use Rattle.std.proofs.Common.{arith, inl, inr, ◌⊎◌}
use Rattle.std.proofs.lemmas.Bool.{cases_lt}
use Rattle.std.proofs.lemmas.Bool.Decides.{nat_tests}
use Rattle.std.proofs.lemmas.List.{append_assoc, append-nil, get_or-take, get_or_past, length-take}
use Rattle.page_core.specs.Texts.{spelled, work_of, part_before, text_in, texts, steps_in, steps}
use Rattle.page_core.specs.declared.piece.Piece.{Piece}
use Rattle.page_core.specs.declared.piece.Piece.TheVariants.{Bytes, Joined}
use Rattle.page_core.proofs.Grown.{part_at, grown_length}

spelled_append : (ts : List (List ℕ)) (xs ys : List ℕ) → spelled ts (xs ++ ys) ≡ spelled ts ys ++ spelled ts xs
spelled_append ts [] ys = sym (append-nil (spelled ts ys))
spelled_append ts (x ∷ xs) ys =
    ap (λ (w : List ℕ). w ++ get_or ts x []) (spelled_append ts xs ys)
    ∙ append_assoc (spelled ts ys) (spelled ts xs) (get_or ts x [])

work_append : (ns xs ys : List ℕ) → work_of ns (xs ++ ys) ≡ work_of ns xs + work_of ns ys
work_append ns [] ys = omega arith
work_append ns (x ∷ xs) ys = omega (arith, work_append ns xs ys)

-- a number and those below it
pub spelled_push : (ts : List (List ℕ)) (xs old : List ℕ) (x : ℕ) → old ≡ xs ++ x ∷ [] →
    spelled ts old ≡ get_or ts x [] ++ spelled ts xs
spelled_push ts xs old x e = ap (spelled ts) e ∙ spelled_append ts xs (x ∷ [])

pub work_push : (ns xs old : List ℕ) (x : ℕ) → old ≡ xs ++ x ∷ [] →
    work_of ns old ≡ 1 + (get_or ns x 0 + work_of ns xs)
work_push ns xs old x e = omega (arith, ap (work_of ns) e, work_append ns xs (x ∷ []))

part_cases : (i j : ℕ) → ((i < j) × (part_before i j ≡ i ∷ [])) ⊎ ((j ≤ i) × (part_before i j ≡ []))
part_cases i j = elim (cases_lt i j) [
  | inl lt ↦ inl (lt, grind (arith, nat_tests))
  | inr le ↦ inr (le, grind (arith, nat_tests))
]

part_spelled : (ts : List (List ℕ)) (i j : ℕ) → spelled ts (part_before i j) ≡ get_or (take j ts) i []
part_spelled ts i j = elim (part_cases i j) [
  | inl p ↦ ap (spelled ts) p.1 ∙ sym (get_or-take j ts i [] p.0)
  | inr p ↦ ap (spelled ts) p.1
      ∙ sym (get_or_past (take j ts) i [] (let h = length-take j ts in let q = p.0 in omega (arith, h, q)))
]

part_work : (ns : List ℕ) (i j : ℕ) → work_of ns (part_before i j) ≤ 1 + get_or (take j ns) i 0
part_work ns i j = elim (part_cases i j) [
  | inl p ↦ omega (arith, ap (work_of ns) p.1, get_or-take j ns i 0 p.0)
  | inr p ↦ omega (arith, ap (work_of ns) p.1)
]

-- the two parts of a pair come in the place of it
pub pair_spelled : (ps : List Piece) (d p : Piece) (number first second : ℕ) (old some new : List ℕ) →
    number < length ps → get_or ps number d ≡ p → p ≡ Joined first second →
    some ≡ old ++ part_before second number → new ≡ some ++ part_before first number →
    spelled (texts ps) new ≡ get_or (texts ps) number [] ++ spelled (texts ps) old
pair_spelled ps d p number first second old some new lt at is s n =
    let ts = texts ps in
    let whole : get_or ts number [] ≡ get_or (take number ts) first [] ++ get_or (take number ts) second [] =
    part_at text_in ps number [] d lt ∙ ap (text_in (take number ts)) (at ∙ is) in
    ap (spelled ts) n
    ∙ spelled_append ts some (part_before first number)
    ∙ ap (λ (w : List ℕ). spelled ts (part_before first number) ++ w)
    (ap (spelled ts) s ∙ spelled_append ts old (part_before second number))
    ∙ ap₂ (λ (v w : List ℕ). v ++ (w ++ spelled ts old)) (part_spelled ts first number) (part_spelled ts second
    number)
    ∙ sym (append_assoc (get_or (take number ts) first []) (get_or (take number ts) second []) (spelled ts old))
    ∙ ap (λ (w : List ℕ). w ++ spelled ts old) (sym whole)

pub pair_work : (ps : List Piece) (d p : Piece) (number first second : ℕ) (old some new : List ℕ) →
    number < length ps → get_or ps number d ≡ p → p ≡ Joined first second →
    some ≡ old ++ part_before second number → new ≡ some ++ part_before first number →
    work_of (steps ps) new < 1 + (get_or (steps ps) number 0 + work_of (steps ps) old)
pair_work ps d p number first second old some new lt at is s n =
    let ns = steps ps in
    let whole : get_or ns number 0 ≡ 2 + (get_or (take number ns) first 0 + get_or (take number ns) second 0) =
    part_at steps_in ps number 0 d lt ∙ ap (steps_in (take number ns)) (at ∙ is) in
    let one = ap (work_of ns) n in
    let two = work_append ns some (part_before first number) in
    let three = ap (work_of ns) s in
    let four = work_append ns old (part_before second number) in
    omega (arith, whole, one, two, three, four, part_work ns first number, part_work ns second number)

-- a piece of bytes
pub bytes_spelled : (ps : List Piece) (d : Piece) (number : ℕ) (b : _) → number < length ps →
    get_or ps number d ≡ Bytes b → get_or (texts ps) number [] ≡ b.items
bytes_spelled ps d number b lt is =
    part_at text_in ps number [] d lt ∙ ap (text_in (take number (texts ps))) is

-- a number that is not there
pub none_spelled : (ps : List Piece) (number : ℕ) → length ps ≤ number → get_or (texts ps) number [] ≡ []
none_spelled ps number le = get_or_past (texts ps) number [] (omega (arith, grown_length text_in [] ps))
