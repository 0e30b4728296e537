-- The data of a program: their addresses are those of data, and their integers have 64 bits.
use Rattle.std.proofs.Common.{◌≡◌, ℕ, zero, suc, ◌<◌, List, [], ◌∷◌, map, Some, refl, sym, ap, ◌∙◌, subst, slice_get}
use Rattle.std.specs.Prelude.{ℤ, FitsSigned}
use Rattle.std.specs.Int.{w64}
use Rattle.t_terms.specs.Tree.{TValue, Plain, Pack, TDatum, TData}
use Rattle.t_terms.specs.Tree as tree
use Rattle.t_terms.specs.Values.{DataValues, HeapValues}
use Rattle.t_terms.specs.Whole.{WellFormedBase, WellFormedValue, WellFormedData, WellFormedHeap, BaseFits, ValueFits}
use Rattle.t_terms.specs.Whole.{IntFits}
use Rattle.t_rules.specs.Erase.{EWord, EInt, EAddress, ELabel, EEmpty, erase_value, erase_datum, no_ewords, field_word}
use Rattle.t_rules.specs.Erase.{base_word}
use Rattle.w_laws.proofs.Fitting.{int_fits}

-- the addresses in data are those of data
module _ (p q : ℕ) where
  value_below : (n : ℕ) (v : TValue) (d : ℕ) → WellFormedValue p q n v → erase_value v ≡ tree.Data d → d < q
  value_below n (Plain b ts) d w e = subst (WellFormedBase p q) e w.0
  value_below n (Pack t v s) d w e = value_below n v d w.1 e

  base_below : (n : ℕ) (x : TDatum) (d : ℕ) → WellFormedValue p q n x.value → erase_datum x ≡ EAddress d → d < q
  base_below n x d w e = by_base (erase_value x.value) refl e
    where
      by_base : (b : tree.TBase) → erase_value x.value ≡ b →
          field_word (base_word no_ewords (erase_value x.value)) ≡ EAddress d → d < q
      by_base (tree.Data k) f e =
          let g : EAddress k ≡ EAddress d = sym (ap (λ y. field_word (base_word no_ewords y)) f) ∙ e in
          let same : k ≡ d = cc in
          subst (λ y. y < q) same (value_below n x.value k w f)
      by_base (tree.Int i) f e =
          let g : EInt i ≡ EAddress d = sym (ap (λ y. field_word (base_word no_ewords y)) f) ∙ e in cc
      by_base (tree.Label l) f e =
          let g : ELabel l ≡ EAddress d = sym (ap (λ y. field_word (base_word no_ewords y)) f) ∙ e in cc
      by_base (tree.Reg r) f e =
          let g : EEmpty ≡ EAddress d = sym (ap (λ y. field_word (base_word no_ewords y)) f) ∙ e in cc

  data_below : (x : TData) (i d : ℕ) → WellFormedData p q x → slice_get (map erase_datum x) i ≡ Some (EAddress d) →
      d < q
  data_below [] i d w e = cc
  data_below (y ∷ x) zero d w e = let f : erase_datum y ≡ EAddress d = cc in base_below 0 y d w.0.0 f
  data_below (y ∷ x) (suc i) d w e = data_below x i d w.1 e

  pub heap_below : (h : List TData) (a i d : ℕ) (t : List EWord) → WellFormedHeap p q h →
      slice_get (map (map erase_datum) h) a ≡ Some t → slice_get t i ≡ Some (EAddress d) → d < q
  heap_below [] a i d t w e f = cc
  heap_below (x ∷ h) zero i d t w e f =
      let same : map erase_datum x ≡ t = cc in
      data_below x i d w.0 (ap (λ y. slice_get y i) same ∙ f)
  heap_below (x ∷ h) (suc a) i d t w e f = heap_below h a i d t w.1 e f

-- and their integers have 64 bits
value_fits : (v : TValue) (j : ℤ) → ValueFits v → erase_value v ≡ tree.Int j → IntFits j
value_fits (Plain b ts) j f e = subst BaseFits e f
value_fits (Pack t v s) j f e = value_fits v j f e

datum_fits : (x : TDatum) (j : ℤ) → ValueFits x.value → erase_datum x ≡ EInt j → FitsSigned w64 j
datum_fits x j f e = by_base (erase_value x.value) refl e
  where
    by_base : (b : tree.TBase) → erase_value x.value ≡ b →
        field_word (base_word no_ewords (erase_value x.value)) ≡ EInt j → FitsSigned w64 j
    by_base (tree.Int k) g e =
        let h : EInt k ≡ EInt j = sym (ap (λ y. field_word (base_word no_ewords y)) g) ∙ e in
        let same : k ≡ j = cc in
        int_fits j (value_fits x.value j f (g ∙ ap tree.Int same))
    by_base (tree.Data d) g e =
        let h : EAddress d ≡ EInt j = sym (ap (λ y. field_word (base_word no_ewords y)) g) ∙ e in cc
    by_base (tree.Label l) g e =
        let h : ELabel l ≡ EInt j = sym (ap (λ y. field_word (base_word no_ewords y)) g) ∙ e in cc
    by_base (tree.Reg r) g e =
        let h : EEmpty ≡ EInt j = sym (ap (λ y. field_word (base_word no_ewords y)) g) ∙ e in cc

data_fit : (x : TData) (i : ℕ) (j : ℤ) → DataValues ValueFits x → slice_get (map erase_datum x) i ≡ Some (EInt j) →
    FitsSigned w64 j
data_fit [] i j f e = cc
data_fit (y ∷ x) zero j f e = let g : erase_datum y ≡ EInt j = cc in datum_fits y j f.0 g
data_fit (y ∷ x) (suc i) j f e = data_fit x i j f.1 e

pub heap_fits : (h : List TData) (a i : ℕ) (j : ℤ) (t : List EWord) → HeapValues ValueFits h →
    slice_get (map (map erase_datum) h) a ≡ Some t → slice_get t i ≡ Some (EInt j) → FitsSigned w64 j
heap_fits [] a i j t f e g = cc
heap_fits (x ∷ h) zero i j t f e g =
    let same : map erase_datum x ≡ t = cc in
    data_fit x i j f.0 (ap (λ y. slice_get y i) same ∙ g)
heap_fits (x ∷ h) (suc a) i j t f e g = heap_fits h a i j t f.1 e g
