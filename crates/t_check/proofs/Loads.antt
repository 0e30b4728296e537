-- A field of a register's tuple.
use Rattle.std.proofs.Common.{◌≡◌, ℕ, zero, suc, ◌+◌, ◌-◌, ◌<◌, ◌≤◌, List, length, Bool, Some, None, refl, sym, ap}
use Rattle.std.proofs.Common.{ap₂, ◌∙◌, ◌||◌, get_or, arith, subst, inl}
use Rattle.idx_core.specs.declared.span.Span.{Span}
use Rattle.idx_core.specs.Over.{At, shifted}
use Rattle.text_core.specs.Refusals.{check, nothing}
use Rattle.t_types.specs.Tree.{Ty, IntTy, VarTy, TupleTy, TFields, NoFields, MoreFields, over_fields, shift, ShiftFits}
use Rattle.t_types.specs.Fields.{AField, field}
use Rattle.t_types.specs.Fits.{Fits, RegTypes}
use Rattle.t_types.proofs.FitsLaws.{field_over}
use Rattle.t_types.specs.WellFormed.{max_names}
use Rattle.t_terms.specs.declared.fault.TCode.{TCode}
use Rattle.t_terms.specs.declared.fault.TCode.TheVariants.{T09, T11, T19}
use Rattle.t_rules.specs.Mismatch.{told, Types}
use Rattle.t_rules.specs.Faults.{Note, FaultWith, bare, fitting, register, integer, tuple, field_at}
use Rattle.t_intern.specs.Marks.{marked_fields}
use Rattle.t_intern.specs.Nodes.{at, fields_at}
use Rattle.t_types.specs.Bounds.{Bounded}
use Rattle.t_known.specs.Known.{own, seen, IsEntry}
use Rattle.t_known.specs.declared.registers.Entry.{Entry}
use Rattle.t_rules.proofs.Depth.{bounded, bounded_shift, shift_fits, field_shallow}
use Rattle.t_known.specs.Marks.{marks}
use Rattle.t_known.proofs.Sets.{tuple_marked, marked_field, marked_absent}
use Rattle.t_known.proofs.Tuples as tuples

-- a field that is not there is not there after a walk
none_over : (f : At Ty) (d : ℕ) (fs : TFields) (i : ℕ) → field fs i ≡ None → field (over_fields f d fs) i ≡ None
none_over f d NoFields i e = refl
none_over f d (MoreFields t flag fs) zero e = cc
none_over f d (MoreFields t flag fs) (suc i) e = none_over f d fs i e

-- the entry of a tuple, and one of its fields
module _ (ts : List Ty) (n : ℕ) (e : Entry) (xs : List (ℕ × Bool)) (is : at ts e.ty ≡ TupleTy (fields_at ts xs))
    (ok : IsEntry ts n e) (i : ℕ) where
  abbrev pub own_fields : TFields
  own_fields = marked_fields (marks ts e.marks) 1 (fields_at ts xs)

  abbrev pub shown_fields : TFields
  shown_fields = over_fields (shifted VarTy (n - e.names)) 0 own_fields

  own_is : own ts e ≡ TupleTy own_fields
  own_is = tuple_marked ts e.marks (at ts e.ty) (fields_at ts xs) is

  pub shown_tuple : seen ts n e ≡ TupleTy shown_fields
  shown_tuple = ap (shift (n - e.names) 0) own_is

  pub shown_none : length xs ≤ i → field shown_fields i ≡ None
  shown_none le =
      none_over (shifted VarTy (n - e.names)) 0 own_fields i
      (marked_absent (marks ts e.marks) 1 i (fields_at ts xs) (tuples.no_field ts xs i le))

  module _ (x : ℕ × Bool) (lt : i < length xs) (here : x ≡ get_or xs i x) where
    abbrev pub own_flag : Bool
    own_flag = x.1 || marks ts e.marks (i + 1)

    own_field : field own_fields i ≡ Some (AField (at ts x.0) own_flag)
    own_field =
        let z : 1 + i ≡ i + 1 = omega arith in
        marked_field (marks ts e.marks) 1 i (fields_at ts xs) (at ts x.0) x.1 (tuples.field_at ts xs i x lt here)
        ∙ ap (λ k. Some (AField (at ts x.0) (x.1 || marks ts e.marks k))) z

    own_bounded : Bounded e.names (at ts x.0)
    own_bounded =
        bounded e.names (at ts x.0)
        (field_shallow e.names own_fields i (at ts x.0) own_flag (subst (λ t. Bounded e.names t) own_is ok.2)
        own_field)

    pub part_fits : n ≤ max_names → ShiftFits (n - e.names) 0 (at ts x.0)
    part_fits few = let le = ok.1 in shift_fits e.names (n - e.names) (at ts x.0) (omega arith) own_bounded

    pub part_field : (t : Ty) (flag : Bool) → t ≡ shift (n - e.names) 0 (at ts x.0) → flag ≡ own_flag →
        field shown_fields i ≡ Some (AField t flag)
    part_field t flag same marked =
        field_over (shifted VarTy (n - e.names)) 0 own_fields i (at ts x.0) own_flag own_field
        ∙ ap₂ (λ (u : Ty) (b : Bool). Some (AField u b)) (sym same) (sym marked)

    pub part_bounded : (t : Ty) → t ≡ shift (n - e.names) 0 (at ts x.0) → Bounded n t
    part_bounded t same =
        let le = ok.1 in
        let sum : e.names + (n - e.names) ≡ n = omega arith in
        subst (Bounded n) (sym same)
        (subst (λ m. Bounded m (shift (n - e.names) 0 (at ts x.0))) sum
        (bounded_shift e.names (n - e.names) (at ts x.0) own_bounded))

-- T09 where it is no integer
pub no_int : (g : RegTypes) (r k : ℕ) (s : Span) (t : Ty) → g r ≡ Some (shift k 0 t) → (t ≡ IntTy → ⊥) →
    register g r s (λ u. integer u s nothing) (T09, None) s
no_int g r k s t known none = rw known (inl (λ q. none (tuples.unshifted_int k t q), (refl, refl)))

pub no_halt : (g : RegTypes) (k : ℕ) (s : Span) (t : Ty) → g 1 ≡ Some (shift k 0 t) → (t ≡ IntTy → ⊥) →
    check (g 1 ≡ Some IntTy) (bare T19 s) nothing (T19, None) s
no_halt g k s t known none =
    inl (
      (λ q. none (tuples.unshifted_int k t (let same : Some (shift k 0 t) ≡ Some IntTy = sym known ∙ q in cc))),
      (refl, refl),
    )

-- a register that does not fit
pub unfit : (code : TCode) (n : ℕ) (g : RegTypes) (r : ℕ) (s : Span) (w u : Ty) → g r ≡ Some w → (Fits w u → ⊥) →
    register g r s (fitting code n s u) (code, told (Types u w n)) s
unfit code n g r s w u known other = rw known (inl (other, (refl, refl)))

-- T11 where there is no such field, and what follows where there is
module _ (g : RegTypes) (r i : ℕ) (s : Span) (rest : TFields → Ty → Bool → FaultWith) (fs : TFields)
    (known : g r ≡ Some (TupleTy fs)) where
  abbrev pub Checked : FaultWith
  Checked = register g r s (λ t. tuple t s (λ hs. field_at hs i s (rest hs)))

  pub field_absent : field fs i ≡ None → Checked (T11, None) s
  field_absent e = rw known (rw e (refl, refl))

  pub field_follows : (t : Ty) (flag : Bool) (c : Note) (p : Span) → field fs i ≡ Some (AField t flag) →
      rest fs t flag c p → Checked c p
  field_follows t flag c p e h = rw known (rw e h)
