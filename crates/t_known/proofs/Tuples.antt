-- Fields of tuple types: by place in a list, filled, and through a shift.
use Rattle.std.proofs.Common.{◌≡◌, ℕ, zero, suc, ◌<◌, ◌≤◌, List, [], ◌∷◌, length, Bool, Some, None, refl, sym, ap, ◌∙◌}
use Rattle.std.proofs.Common.{get_or, arith, zero-le}
use Rattle.idx_core.specs.Over.{shifted}
use Rattle.idx_core.specs.Laws.{shifted_ge}
use Rattle.t_types.specs.Tree.{Ty, IntTy, VarTy, CodeTy, ExistsTy, TupleTy, TFields, NoFields, MoreFields, over_fields}
use Rattle.t_types.specs.Tree.{shift}
use Rattle.t_types.specs.Fields.{AField, field, filled}
use Rattle.t_types.proofs.FitsLaws.{filled_over}
use Rattle.t_intern.specs.Nodes.{at, fields_at}
use Rattle.t_known.specs.Known.{IsTupleWith}

-- fields in a list
module _ (ts : List Ty) where
  pub field_at : (xs : List (ℕ × Bool)) (i : ℕ) (x : ℕ × Bool) → i < length xs → x ≡ get_or xs i x →
      field (fields_at ts xs) i ≡ Some (AField (at ts x.0) x.1)
  field_at [] i x lt is = absurd (omega arith)
  field_at (y ∷ xs) zero x lt is = ap (λ (z : ℕ × Bool). Some (AField (at ts z.0) z.1)) (sym is)
  field_at (y ∷ xs) (suc i) x lt is = field_at xs i x (omega arith) is

  pub no_field : (xs : List (ℕ × Bool)) (i : ℕ) → length xs ≤ i → field (fields_at ts xs) i ≡ None
  no_field [] i le = refl
  no_field (x ∷ xs) zero le = absurd (omega arith)
  no_field (x ∷ xs) (suc i) le = no_field xs i (omega arith)

-- what is a tuple type after a shift was one before
pub unshifted : (k : ℕ) (t : Ty) (fs : TFields) → shift k 0 t ≡ TupleTy fs → (gs : TFields) × (t ≡ TupleTy gs)
    × (fs ≡ over_fields (shifted VarTy k) 0 gs)
unshifted k (TupleTy gs) fs e = (gs, refl, cc)
unshifted k IntTy fs e = cc
unshifted k (VarTy i) fs e = let v = shifted_ge VarTy k 0 i zero-le in cc
unshifted k (CodeTy owes file) fs e = cc
unshifted k (ExistsTy t) fs e = cc

-- and so with an integer
pub unshifted_int : (k : ℕ) (t : Ty) → shift k 0 t ≡ IntTy → t ≡ IntTy
unshifted_int k IntTy e = refl
unshifted_int k (TupleTy gs) e = cc
unshifted_int k (VarTy i) e = let v = shifted_ge VarTy k 0 i zero-le in cc
unshifted_int k (CodeTy owes file) e = cc
unshifted_int k (ExistsTy t) e = cc

field_back : (k : ℕ) (gs : TFields) (i : ℕ) (t : Ty) (flag : Bool) →
    field (over_fields (shifted VarTy k) 0 gs) i ≡ Some (AField t flag) →
    (u : Ty) × (field gs i ≡ Some (AField u flag))
field_back k NoFields i t flag e = cc
field_back k (MoreFields u x gs) zero t flag e = let own : x ≡ flag = cc in (u, ap (λ b. Some (AField u b)) own)
field_back k (MoreFields u x gs) (suc i) t flag e = field_back k gs i t flag e

pub tuple_back : (k : ℕ) (t : Ty) (i : ℕ) → IsTupleWith (shift k 0 t) i → IsTupleWith t i
tuple_back k t i h =
    let b = unshifted k t h.0 h.3 in
    let f = field_back k b.0 i h.1 h.2 (sym (ap (λ fs. field fs i) b.2) ∙ h.4) in (b.0, f.0, h.2, b.1, f.1)

pub filled_shift : (k : ℕ) (t u : Ty) (i : ℕ) (fs : TFields) →
    ((gs : TFields) → t ≡ TupleTy gs → u ≡ TupleTy (filled gs i)) → shift k 0 t ≡ TupleTy fs →
    shift k 0 u ≡ TupleTy (filled fs i)
filled_shift k t u i fs made e =
    let b = unshifted k t fs e in
    ap (shift k 0) (made b.0 b.1)
    ∙ ap TupleTy (filled_over (shifted VarTy k) 0 b.0 i ∙ ap (λ gs. filled gs i) (sym b.2))
