-- A field of a register's tuple becomes initialised.
use Rattle.std.proofs.Common.{◌<◌, ◌≤◌, ◌≢◌, ◌⊎◌, inl, inr, length, ap, zero, suc, ◌+◌, ◌||◌, true, false, cond}
use Rattle.std.proofs.Common.{nat_eq, arith, ◌≡◌, ℕ, ◌-◌, List, Some, sym, ap₂, ◌∙◌, subst}
use Rattle.std.proofs.Math.Path.{fun_ext}
use Rattle.std.proofs.lemmas.Bool.Decides.{eqb_tells}
use Rattle.t_types.specs.Tree.{Ty, TFields, NoFields, MoreFields, TupleTy}
use Rattle.t_types.specs.Fits.{RegTypes}
use Rattle.t_types.specs.Fields.{AField, field, filled}
use Rattle.t_terms.specs.Registers.{with_reg}
use Rattle.t_intern.specs.Grown.{Grown}
use Rattle.t_intern.specs.Marks.{has, marked}
use Rattle.t_intern.specs.Nodes.{at}
use Rattle.t_known.specs.declared.registers.Entry.{Entry}
use Rattle.t_known.specs.declared.registers.Registers.{Registers}
use Rattle.t_types.specs.Bounds.{Bounded}
use Rattle.t_known.specs.Known.{own, seen, known, IsSound, IsFound, IsSet, IsTupleWith, HasField, IsFilled}
use Rattle.t_intern.proofs.Growing.{grown_at, grown_length}
use Rattle.t_known.specs.Marks.{marks}
use Rattle.t_rules.proofs.Depth.{filled_shallow}
use Rattle.t_known.proofs.Sets.{unmarked_tuple, marked_filled}
use Rattle.t_known.proofs.Noting.{set_known, set_sound, known_grown, sound_grown}
use Rattle.t_known.proofs.Tuples.{tuple_back, filled_shift}

-- e is the register's entry: its own type is a tuple with the field
pub own_tuple : (ts : List Ty) (k : Registers) (r i : ℕ) (e : Entry) → IsFound ts k r (Some e) →
    HasField (known ts k) r i → IsTupleWith (own ts e) i
own_tuple ts k r i e found h =
    let here = found.0 in
    let there = h.1 in
    let same : seen ts k.names e ≡ h.0 = cc in
    tuple_back (k.names - e.names) (own ts e) i (subst (λ t. IsTupleWith t i) (sym same) h.2)

-- the set m has the field besides what was marked before
pub is_filled : (ts us : List Ty) (k h : Registers) (r i : ℕ) (e : Entry) (m : ℕ) → Grown ts us → IsSound ts k →
    IsFound ts k r (Some e) → HasField (known ts k) r i →
    m < length us → ((q : ℕ) → 1 ≤ q → has (at us m) q ≡ (nat_eq q (i + 1) || marks ts e.marks q)) →
    IsSet k h r (record { ty = e.ty; marks = Some m; names = e.names }) → IsFilled ts us k h r i
is_filled ts us k h r i e m g s found there below more set =
    let f : Entry = record { ty = e.ty; marks = Some m; names = e.names } in
    let tuple = own_tuple ts k r i e found there in
    let is = made tuple.0 tuple.3 in
    let shape = subst (Bounded e.names) tuple.3 found.1.2 in
    let mine = subst (Bounded e.names) (sym is) (filled_shallow e.names tuple.0 i shape) in
    let l = grown_length ts us g in (
      (λ fs is.
          let here = found.0 in
          let same : seen ts k.names e ≡ TupleTy fs = cc in
          set_known us k h r f set
          ∙ ap₂ (λ (x : RegTypes) (t : Ty). with_reg x r t) (known_grown ts us g k s)
          (filled_shift (k.names - e.names) (own ts e) (own us f) i fs (λ gs q. made gs q) same)),
      set_sound us k h r f set (omega (arith, l, found.1.0), found.1.1, mine, below) (sound_grown ts us g k s),
      set.1,
    )
  where
    made : (gs : TFields) → own ts e ≡ TupleTy gs → marked (at us m) (at us e.ty) ≡ TupleTy (filled gs i)
    made gs q =
        let u = unmarked_tuple ts e.marks (at ts e.ty) gs q in
        ap (marked (at us m)) (grown_at ts us g e.ty found.1.0 ∙ u.1)
        ∙ ap TupleTy (marked_filled (marks ts e.marks) (has (at us m)) 1 i (i + 1) u.0 (omega arith) (omega arith) more
        ∙ ap (λ xs. filled xs i) (sym u.2))

-- a field that is initialised already
filled_as_was : (fs : TFields) (i : ℕ) (t : Ty) → field fs i ≡ Some (AField t true) → filled fs i ≡ fs
filled_as_was NoFields i t is = cc
filled_as_was (MoreFields u flag fs) zero t is = let same : flag ≡ true = cc in ap (λ b. MoreFields u b fs) (sym same)
filled_as_was (MoreFields u flag fs) (suc i) t is = ap (MoreFields u flag) (filled_as_was fs i t is)

pub filled_before : (g : RegTypes) (r : ℕ) (fs : TFields) (i : ℕ) (t : Ty) → g r ≡ Some (TupleTy fs) →
    field fs i ≡ Some (AField t true) → with_reg g r (TupleTy (filled fs i)) ≡ g
filled_before g r fs i t here is = fun_ext (λ q. pick q (eqb_tells r q))
  where
    pick : (q : ℕ) → ((nat_eq r q ≡ true) × (r ≡ q)) ⊎ ((nat_eq r q ≡ false) × (r ≢ q)) →
        cond (nat_eq r q) (Some (TupleTy (filled fs i))) (g q) ≡ g q
    pick q (inl h) = ap (λ b. cond b (Some (TupleTy (filled fs i))) (g q)) h.0
        ∙ ap (λ xs. Some (TupleTy xs)) (filled_as_was fs i t is) ∙ sym here ∙ ap g h.1
    pick q (inr h) = ap (λ b. cond b (Some (TupleTy (filled fs i))) (g q)) h.0
