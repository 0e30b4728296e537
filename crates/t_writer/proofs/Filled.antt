-- What the loops over the fields of a data tuple and over data tuples keep, over plain lists.
use Rattle.std.proofs.Common.{◌≡◌, ◌<◌, ℕ, suc, ◌+◌, List, [], ◌∷◌, ◌++◌, length, drop, get_or, sym, ◌∙◌}
use Rattle.std.proofs.Common.{subst, append_assoc, add-one, codes, decimal}
use Rattle.idx_core.specs.declared.span.Span.{Span}
use Rattle.t_types.specs.declared.types.TType.{TType}
use Rattle.t_types.specs.Read.{tree}
use Rattle.t_types.specs.Tree.{Ty}
use Rattle.t_terms.specs.declared.value.Value.{Value}
use Rattle.t_terms.specs.declared.data.Data.{Data}
use Rattle.t_terms.specs.Tree.{TValue, TDatum, TData}
use Rattle.t_terms.specs.Spanned.{plain_fields}
use Rattle.t_terms.specs.Read.{value, data_fields, data_of}
use Rattle.t_terms.specs.Whole.{WellFormedValue, WellFormedData, WellFormedHeap}
use Rattle.t_writer.specs.Lexeme.{Lexeme, DataName, Reserved, render}
use Rattle.t_writer.specs.Lexeme.{colon, left_angle, right_angle}
use Rattle.t_writer.specs.Written.{space, line_end, separator, value_written, type_written, datum_written}
use Rattle.t_writer.specs.Written.{data_fields_written, data_written, heap_written}
use Rattle.t_writer.proofs.Rendered.{render_append}
use Rattle.idx_core.proofs.Lists.{next_item as item_next}

-- a field as the code keeps it
abbrev pub Field : Type 0
Field = Value × TType × Span

-- the fields without their places
abbrev pub fields_in : List Field → TData
fields_in xs = plain_fields (data_fields xs)

-- a field without its place
abbrev pub field_in : Field → TDatum
field_in x = record { value = value x.0; ty = tree x.1 }

-- what the loop over fields keeps
pub record Filling (xs : List Field) (i : ℕ) (text whole : List ℕ) : Type 0 where
  pub fits : (p q : ℕ) × WellFormedData p q (fields_in (drop i xs))
  pub written : text ++ render (data_fields_written i (fields_in (drop i xs))) ≡ whole

module _ (xs : List Field) (i : ℕ) (text whole : List ℕ) (h : Filling xs i text whole) where
  module _ (x : Field) (is : x ≡ get_or xs i x) (lt : i < length xs) where
    next_field_fits : (p q : ℕ) × WellFormedData p q (fields_in (x ∷ drop (i + 1) xs))
    next_field_fits =
        subst (λ (ys : List Field). (p q : ℕ) × WellFormedData p q (fields_in ys)) (item_next xs i x is lt) h.fits

    pub value_fits : (p q : ℕ) × WellFormedValue p q 0 (value x.0)
    value_fits = (next_field_fits.0, next_field_fits.1, next_field_fits.2.0.0)

    pub filling_more : (t1 t2 : List ℕ) → t1 ≡ text ++ render (separator i) →
        t2 ≡ t1 ++ render (datum_written (field_in x)) → Filling xs (i + 1) t2 whole
    filling_more t1 t2 e1 e2 =
        let d = item_next xs i x is lt in
        let rest = data_fields_written (suc i) (fields_in (drop (i + 1) xs)) in
        let w : text ++ render (separator i ++ (datum_written (field_in x) ++ rest)) ≡ whole =
        subst (λ (ys : List Field). text ++ render (data_fields_written i (fields_in ys)) ≡ whole) d h.written in
        let j = rw (
          render_append (separator i) (datum_written (field_in x) ++ rest),
          render_append (datum_written (field_in x)) rest,
        ) at w in
        let m : ((text ++ render (separator i)) ++ render (datum_written (field_in x))) ++ render rest ≡ whole =
        simp append_assoc j in
        record {
          fits = (next_field_fits.0, next_field_fits.1, next_field_fits.2.1);
          written = rw (e2, e1)
              (subst (λ (n : ℕ). ((text ++ render (separator i)) ++ render (datum_written (field_in x)))
              ++ render (data_fields_written n (fields_in (drop (i + 1) xs))) ≡ whole) (sym (add-one i)) m);
        }

-- what the loop over data tuples keeps
pub record Heaping (xs : List Data) (i : ℕ) (text whole : List ℕ) : Type 0 where
  pub fits : (p q : ℕ) × WellFormedHeap p q (data_of (drop i xs))
  pub written : text ++ render (heap_written i (data_of (drop i xs))) ≡ whole

module _ (xs : List Data) (i : ℕ) (text whole : List ℕ) (h : Heaping xs i text whole) where
  module _ (x : Data) (is : x ≡ get_or xs i x) (lt : i < length xs) where
    next_data_fit : (p q : ℕ) × WellFormedHeap p q (data_of (x ∷ drop (i + 1) xs))
    next_data_fit =
        subst (λ (ys : List Data). (p q : ℕ) × WellFormedHeap p q (data_of ys)) (item_next xs i x is lt) h.fits

    pub data_fits : (p q : ℕ) × WellFormedData p q (fields_in x.fields.items)
    data_fits = (next_data_fit.0, next_data_fit.1, next_data_fit.2.0)

    pub heaping_more : (t1 : List ℕ) → t1 ≡ text ++ render (data_written i (fields_in x.fields.items)) →
        Heaping xs (i + 1) t1 whole
    heaping_more t1 e =
        let d = item_next xs i x is lt in
        let first = data_written i (fields_in x.fields.items) in
        let rest = heap_written (suc i) (data_of (drop (i + 1) xs)) in
        let w : text ++ render (first ++ rest) ≡ whole =
        subst (λ (ys : List Data). text ++ render (heap_written i (data_of ys)) ≡ whole) d h.written in
        let j = rw (render_append first rest) at w in
        let m : (text ++ render first) ++ render rest ≡ whole = append_assoc text _ _ ∙ j in
        record {
          fits = (next_data_fit.0, next_data_fit.1, next_data_fit.2.1);
          written = rw e
              (subst (λ (n : ℕ). (text ++ render first) ++ render (heap_written n (data_of (drop (i + 1) xs))) ≡ whole)
              (sym (add-one i)) m);
        }

-- a field, of its parts
pub datum_done : (v : TValue) (t : Ty) (t0 t1 t2 t3 : List ℕ) → t1 ≡ t0 ++ render (value_written 0 v) →
    t2 ≡ t1 ++ codes " : " → t3 ≡ t2 ++ render (type_written 0 t) →
    t3 ≡ t0 ++ render (datum_written (record { value = v; ty = t }))
datum_done v t t0 t1 t2 t3 e1 e2 e3 =
    rw (e3, e2, e1, render_append (value_written 0 v) (space ∷ (colon ∷ (space ∷ type_written 0 t))))
    (simp append_assoc)

regroup : (a b c d e : List ℕ) → a ++ b ++ c ++ d ++ e ≡ a ++ (b ++ (c ++ (d ++ e)))
regroup a b c d e = simp append_assoc

-- a data tuple, of its parts
data_parts : (n : ℕ) (fs : List Lexeme) (t0 t1 t2 t3 t4 : List ℕ) → t1 ≡ t0 ++ 68 ∷ decimal n →
    t2 ≡ t1 ++ codes ": data <" → t3 ≡ t2 ++ render fs → t4 ≡ t3 ++ codes ">\n" →
    t4 ≡ t0 ++ render
    (DataName n ∷ (colon
    ∷ (space ∷ (Reserved (codes "data")
    ∷ (space ∷ (left_angle ∷ (fs ++ (right_angle ∷ (line_end ∷ [])))))))))
data_parts n fs t0 t1 t2 t3 t4 e1 e2 e3 e4 =
    rw (e4, e3, e2, e1, render_append fs (right_angle ∷ (line_end ∷ [])))
    (regroup t0 (68 ∷ decimal n) (codes ": data <") (render fs) (codes ">\n"))

pub data_done : (n : ℕ) (xs : TData) (t0 t1 t2 t3 t4 : List ℕ) → t1 ≡ t0 ++ 68 ∷ decimal n →
    t2 ≡ t1 ++ codes ": data <" → t3 ≡ t2 ++ render (data_fields_written 0 xs) → t4 ≡ t3 ++ codes ">\n" →
    t4 ≡ t0 ++ render (data_written n xs)
data_done n xs t0 t1 t2 t3 t4 e1 e2 e3 e4 = data_parts n (data_fields_written 0 xs) t0 t1 t2 t3 t4 e1 e2 e3 e4
