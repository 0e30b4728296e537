-- The names of data tuples: how a whole follows from its parts.
use Rattle.std.proofs.Common.{◌≡◌, ℕ, ◌+◌, ◌<◌, ◌≤◌, List, [], ◌∷◌, ◌++◌, length, map, drop, get_or, Vec, Global, refl}
use Rattle.std.proofs.Common.{◌∙◌, ap, append_assoc}
use Rattle.std.proofs.lemmas.List.{append-nil}
use Rattle.std.proofs.Math.ListN.{drop_of_length-le}
use Rattle.idx_core.specs.declared.span.Span.{Span}
use Rattle.idx_core.specs.Names.{Name}
use Rattle.t_types.specs.declared.types.TType.{TType}
use Rattle.t_terms.specs.declared.value.Value.{Value}
use Rattle.t_terms.specs.Spanned.{SDatum}
use Rattle.t_terms.specs.Read as read
use Rattle.t_text.specs.Names.{Labels, datum_of, data_of}
use Rattle.t_text.specs.NameFaults.{value_faults, type_faults, datum_faults, data_faults}
use Rattle.t_shapes.specs.RawTypes.{raw}
use Rattle.t_shapes.specs.declared.raw.RawDatum.{RawDatum}
use Rattle.t_shapes.specs.declared.raw.RawData.{RawData}
use Rattle.t_shapes.specs.Raw.{raw_value, raw_datum, raw_data}
use Rattle.t_reader.specs.Resolve.{StopsAt}
use Rattle.t_terms.specs.declared.fault.TFault.{TFault}
use Rattle.t_reader.proofs.Found.{stop_left, stop_right, none_both}
use Rattle.t_reader.proofs.Naming.{Done}
use Rattle.t_reader.proofs.Valuing.{Valued}
use Rattle.idx_core.proofs.Lists.{next_item}

-- a field, where no names are in scope
module _ (text : List ℕ) (ls : Labels) (x : RawDatum) (a : List Name) (none : a ≡ []) where
  pub datum_value_stop : (s : TFault) → StopsAt (value_faults text ls a (raw_value x.value)) s →
      StopsAt (datum_faults text ls (raw_datum x)) s
  datum_value_stop s h = stop_left _ _ s (rw none at h)

  module _ (b : List Name) (v : Value) (g : Valued text ls a x.value b v) where
    pub datum_type_stop : (s : TFault) → StopsAt (type_faults text b (raw x.ty)) s →
        StopsAt (datum_faults text ls (raw_datum x)) s
    datum_type_stop s h = stop_right _ _ s (rw none at g.1) (rw (g.0, none) at h)

    pub datum_whole : (c : List Name) (t : TType) → Done text b x.ty c t → (datum_faults text ls (raw_datum x) ≡ [])
        × (read.datum (v, t, x.place) ≡ datum_of text ls (raw_datum x))
    datum_whole c t h =
        (none_both _ _ (rw none at g.1) (rw (g.0, none) at h.1), rw (rw none at g.2, rw (g.0, none) at h.2) refl)

-- a data tuple, of which the fields from k on are left
pub record DataLeft (text : List ℕ) (ls : Labels) (xs : List RawDatum) (k : ℕ) (made : List (Value × TType × Span)) :
    Type 0 where
  pub faults : data_faults text ls (map raw_datum xs) ≡ data_faults text ls (map raw_datum (drop k xs))
  pub trees : map (datum_of text ls) (map raw_datum xs) ≡ read.data_fields made
      ++ map (datum_of text ls) (map raw_datum (drop k xs))

fields_append : (xs ys : List (Value × TType × Span)) →
    read.data_fields (xs ++ ys) ≡ read.data_fields xs ++ read.data_fields ys
fields_append [] ys = refl
fields_append (x ∷ xs) ys = ap (λ (zs : List SDatum). read.datum x ∷ zs) (fields_append xs ys)

module _ (text : List ℕ) (ls : Labels) (xs : List RawDatum) where
  pub data_start : DataLeft text ls xs 0 []
  data_start = record { faults = refl; trees = refl }

  module _ (k : ℕ) (made : List (Value × TType × Span)) (x : RawDatum) (l : k < length xs) (i : x ≡ get_or xs k x)
      (h : DataLeft text ls xs k made) where
    at_datum : data_faults text ls (map raw_datum xs) ≡ datum_faults text ls (raw_datum x)
        ++ data_faults text ls (map raw_datum (drop (k + 1) xs))
    at_datum = h.faults ∙ rw (next_item xs k x i l) refl

    pub data_stop : (s : TFault) → StopsAt (datum_faults text ls (raw_datum x)) s →
        StopsAt (data_faults text ls (map raw_datum xs)) s
    data_stop s f = rw at_datum (stop_left _ _ s f)

    pub data_next : (y : Value × TType × Span) (more : List (Value × TType × Span)) →
        (datum_faults text ls (raw_datum x) ≡ []) × (read.datum y ≡ datum_of text ls (raw_datum x)) →
        more ≡ made ++ y ∷ [] → DataLeft text ls xs (k + 1) more
    data_next y more d m = record {
      faults = at_datum ∙ rw d.0 refl;
      trees = h.trees
          ∙ rw (
            next_item xs k x i l,
            m,
            fields_append made (y ∷ []),
            append_assoc (read.data_fields made) (read.datum y ∷ [])
                (map (datum_of text ls) (map raw_datum (drop (k + 1) xs))),
            d.1,
          ) refl;
    }

pub data_whole : (text : List ℕ) (ls : Labels) (d : RawData) (xs : List RawDatum) (p : xs ≡ d.fields.items) (k : ℕ)
    (made : Vec (Value × TType × Span) Global) → length xs ≤ k → DataLeft text ls xs k made.items →
    (data_faults text ls (raw_data d).fields ≡ [])
    × (read.spanned_data (record { name = d.name; fields = made }) ≡ data_of text ls (raw_data d))
data_whole text ls d xs p k made l h =
    let n : drop k xs ≡ [] = drop_of_length-le xs l in
    let f : data_faults text ls (map raw_datum xs) ≡ [] = h.faults ∙ rw n refl in
    let g : map (datum_of text ls) (map raw_datum xs) ≡ read.data_fields made.items =
    h.trees ∙ (rw n (append-nil (read.data_fields made.items))) in
    (rw (← p) f, rw (← p, g) refl)

pub data_stop_whole : (text : List ℕ) (ls : Labels) (d : RawData) (xs : List RawDatum) (p : xs ≡ d.fields.items)
    (s : TFault) → StopsAt (data_faults text ls (map raw_datum xs)) s →
    StopsAt (data_faults text ls (raw_data d).fields) s
data_stop_whole text ls d xs p s h = rw (← p) h
