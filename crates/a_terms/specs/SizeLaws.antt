-- The types that are computed are not much larger than those that are written.
use Rattle.std.proofs.Common.{◌≡◌, ℕ, zero, suc, ◌+◌, ◌-◌, ◌<◌, ◌≤◌, ◌⊎◌, inl, inr, max, List, [], ◌∷◌, map, Some, None}
use Rattle.std.proofs.Common.{Option, refl, ap, arith, slice_get}
use Rattle.std.proofs.lemmas.Bool.{cases_lt, cases_order}
use Rattle.idx_core.specs.Over.{At, shifted, putted}
use Rattle.idx_core.specs.Laws.{shifted_lt, shifted_ge, putted_lt, putted_eq, putted_gt}
use Rattle.a_terms.specs.Tree.{ATy, AInt, AVar, ATuple, ACode, AExists, ATys, NoATys, MoreATys, AFields, NoAFields}
use Rattle.a_terms.specs.Tree.{MoreAFields, ABlk, AConsts, AProg, AVal, Var, Num, Lab, Data, Apply, Pack, ADecl, Value}
use Rattle.a_terms.specs.Tree.{Proj, Arith, Unpack, Malloc, Init, arity, over, over_types, over_fields, ashift}
use Rattle.a_terms.specs.Tree.{aput_types}
use Rattle.a_terms.specs.Typing.{aapply, afield_type, afilled, aunset, data_fields, type_of, or_int, field_of, body_of}
use Rattle.a_terms.specs.Typing.{filled_of, declared, types_of}
use Rattle.a_terms.specs.TypeLaws.{split_code, split_data, split_applied}
use Rattle.a_terms.specs.Sizes.{bulk, bulk_types, bulk_fields, bulk_sum, value_weight, decl_weight}

arity_over : (f : At ATy) (d : ℕ) (ts : ATys) → arity (over_types f d ts) ≡ arity ts
arity_over f d NoATys = refl
arity_over f d (MoreATys t ts) = ap suc (arity_over f d ts)

-- a walk that puts no more than n at each variable adds no more than n
mutual
  bulk_over : (f : At ATy) (n d : ℕ) → ((e i : ℕ) → bulk (f e i) ≤ n) → (t : ATy) → bulk (over f d t) ≤ bulk t + n
  bulk_over f n d h AInt = omega arith
  bulk_over f n d h (AVar i) = omega (arith, h d i)
  bulk_over f n d h (ATuple fs) = bulk_over_fields f n d h fs
  bulk_over f n d h (ACode owes args) =
      omega (arith, arity_over f (d + owes) args, bulk_over_types f n (d + owes) h args)
  bulk_over f n d h (AExists t) = omega (arith, bulk_over f n (d + 1) h t)

  bulk_over_types : (f : At ATy) (n d : ℕ) → ((e i : ℕ) → bulk (f e i) ≤ n) → (ts : ATys) →
      bulk_types (over_types f d ts) ≤ bulk_types ts + n
  bulk_over_types f n d h NoATys = omega arith
  bulk_over_types f n d h (MoreATys t ts) = omega (arith, bulk_over f n d h t, bulk_over_types f n d h ts)

  bulk_over_fields : (f : At ATy) (n d : ℕ) → ((e i : ℕ) → bulk (f e i) ≤ n) → (fs : AFields) →
      bulk_fields (over_fields f d fs) ≤ bulk_fields fs + n
  bulk_over_fields f n d h NoAFields = omega arith
  bulk_over_fields f n d h (MoreAFields t b fs) = omega (arith, bulk_over f n d h t, bulk_over_fields f n d h fs)

shifted_bulk : (k d i : ℕ) → bulk (shifted AVar k d i) ≤ 0
shifted_bulk k d i = here (cases_lt i d)
  where
    here : (i < d) ⊎ (d ≤ i) → bulk (shifted AVar k d i) ≤ 0
    here (inl l) = omega (arith, ap bulk (shifted_lt AVar k d i l))
    here (inr l) = omega (arith, ap bulk (shifted_ge AVar k d i l))

pub bulk_shift : (k c : ℕ) (t : ATy) → bulk (ashift k c t) ≤ bulk t
bulk_shift k c t = omega (arith, bulk_over (shifted AVar k) 0 c (shifted_bulk k) t)

putted_bulk : (c : ℕ) (s : ATy) (d i : ℕ) → bulk (putted AVar over c s d i) ≤ bulk s
putted_bulk c s d i = here (cases_order i d)
  where
    here : (i ≡ d) ⊎ ((i < d) ⊎ (d < i)) → bulk (putted AVar over c s d i) ≤ bulk s
    here (inl e) = omega (arith, ap bulk (putted_eq AVar over c s d i e), bulk_shift (d - c) 0 s)
    here (inr (inl l)) = omega (arith, ap bulk (putted_lt AVar over c s d i l))
    here (inr (inr l)) = omega (arith, ap bulk (putted_gt AVar over c s d i l))

pub bulk_put_types : (c : ℕ) (s : ATy) (ts : ATys) → bulk_types (aput_types c s ts) ≤ bulk_types ts + bulk s
bulk_put_types c s ts = bulk_over_types (putted AVar over c s) (bulk s) c (putted_bulk c s) ts

pub arity_put : (c : ℕ) (s : ATy) (ts : ATys) → arity (aput_types c s ts) ≡ arity ts
arity_put c s ts = arity_over (putted AVar over c s) c ts

bulk_apply : (ts : ATys) (s u : ATy) → aapply s ts ≡ Some u → bulk u ≤ bulk s + bulk_sum ts
bulk_apply NoATys s u e = let x : s ≡ u = cc in omega (arith, ap bulk x)
bulk_apply (MoreATys t ts) AInt u e = cc
bulk_apply (MoreATys t ts) (AVar n) u e = cc
bulk_apply (MoreATys t ts) (ATuple fs) u e = cc
bulk_apply (MoreATys t ts) (ACode zero us) u e = cc
bulk_apply (MoreATys t ts) (ACode (suc n) us) u e =
    let r = bulk_apply ts (ACode n (aput_types n (ashift n 0 t) us)) u e in
    omega (
      arith,
      r,
      arity_over (putted AVar over n (ashift n 0 t)) n us,
      bulk_put_types n
          (ashift n 0 t) us,
      bulk_shift n 0 t,
    )
bulk_apply (MoreATys t ts) (AExists v) u e = cc

pub sum_least : (ts : ATys) → bulk_types ts ≤ bulk_sum ts
sum_least NoATys = omega arith
sum_least (MoreATys t ts) = omega (arith, sum_least ts)

-- no type in scope is larger than n
abbrev pub All-small : ℕ → List ATy → Type 0
All-small n [] = Unit {0}
All-small n (t ∷ g) = (bulk t ≤ n) × All-small n g

small_more : (n m : ℕ) (g : List ATy) → n ≤ m → All-small n g → All-small m g
small_more n m [] le a = tt
small_more n m (t ∷ g) le a = (omega (arith, a.0), small_more n m g le a.1)

small_shifted : (n : ℕ) (g : List ATy) → All-small n g → All-small n (map (ashift 1 0) g)
small_shifted n [] a = tt
small_shifted n (t ∷ g) a = (omega (arith, a.0, bulk_shift 1 0 t), small_shifted n g a.1)

small_nth : (n : ℕ) (g : List ATy) (i : ℕ) (t : ATy) → All-small n g → slice_get g i ≡ Some t → bulk t ≤ n
small_nth n [] i t a e = cc
small_nth n (x ∷ g) zero t a e = let y : x ≡ t = cc in omega (arith, a.0, ap bulk y)
small_nth n (x ∷ g) (suc i) t a e = small_nth n g i t a.1 e

pub small_args : (n : ℕ) (ts : ATys) (g : List ATy) → bulk_types ts ≤ n → All-small n g → All-small n (types_of ts g)
small_args n NoATys g le a = a
small_args n (MoreATys t ts) g le a = small_args n ts (t ∷ g) (omega arith) (omega arith, a)

-- no type of a block and of a data tuple is larger than n
pub record Labels-small (n : ℕ) (p : AProg) : Type 0 where
  pub codes : (l : ℕ) (b : ABlk) → slice_get p.blocks l ≡ Some b → bulk (ACode b.owes b.args) ≤ n
  pub data_in : (l : ℕ) (x : AConsts) → slice_get p.tuples l ≡ Some x → bulk_fields (data_fields x) ≤ n

bulk_field : (fs : AFields) (i : ℕ) → bulk (or_int (afield_type fs i)) ≤ bulk_fields fs
bulk_field NoAFields i = omega arith
bulk_field (MoreAFields t f fs) zero = omega arith
bulk_field (MoreAFields t f fs) (suc i) = omega (arith, bulk_field fs i)

bulk_filled : (fs : AFields) (i : ℕ) → bulk_fields (afilled fs i) ≡ bulk_fields fs
bulk_filled NoAFields i = refl
bulk_filled (MoreAFields t f fs) zero = refl
bulk_filled (MoreAFields t f fs) (suc i) = ap (max (bulk t)) (bulk_filled fs i)

bulk_unset : (ts : ATys) → bulk_fields (aunset ts) ≡ bulk_types ts
bulk_unset NoATys = refl
bulk_unset (MoreATys t ts) = ap (max (bulk t)) (bulk_unset ts)

module _ (p : AProg) (n : ℕ) (labels : Labels-small n p) (g : List ATy) (small : All-small n g) where
  pub small_value : (v : AVal) (t : ATy) → type_of p g v ≡ Some t → bulk t ≤ n + value_weight v
  small_value (Var i) t e = omega (arith, small_nth n g i t small e)
  small_value (Num i) t e = let x : AInt ≡ t = cc in omega (arith, ap bulk x)
  small_value (Lab l) t e =
      let s = split_code (slice_get p.blocks l) t e in omega (arith, labels.codes l s.0 s.1, ap bulk s.2)
  small_value (Data l) t e =
      let s = split_data (slice_get p.tuples l) t e in omega (arith, labels.data_in l s.0 s.1, ap bulk s.2)
  small_value (Apply v ts) t e =
      let s = split_applied (type_of p g v) ts t e in omega (arith, small_value v s.0 s.1, bulk_apply ts s.0 t s.2)
  small_value (Pack h v s) t e = let x : s ≡ t = cc in omega (arith, ap bulk x)

  small_or : (v : AVal) (o : Option ATy) → type_of p g v ≡ o → bulk (or_int o) ≤ n + value_weight v
  small_or v None e = omega arith
  small_or v (Some t) e = small_value v t e

  small_body : (v : AVal) (o : Option ATy) → type_of p g v ≡ o → bulk (body_of o) ≤ n + value_weight v
  small_body v None e = omega arith
  small_body v (Some AInt) e = omega arith
  small_body v (Some (AVar i)) e = omega arith
  small_body v (Some (ATuple fs)) e = omega arith
  small_body v (Some (ACode m ts)) e = omega arith
  small_body v (Some (AExists t)) e = omega (arith, small_value v (AExists t) e)

  small_field : (v : AVal) (i : ℕ) (o : Option ATy) → type_of p g v ≡ o → bulk (field_of i o) ≤ n + value_weight v
  small_field v i None e = omega arith
  small_field v i (Some AInt) e = omega arith
  small_field v i (Some (AVar j)) e = omega arith
  small_field v zero (Some (ATuple fs)) e = omega arith
  small_field v (suc i) (Some (ATuple fs)) e = omega (arith, small_value v (ATuple fs) e, bulk_field fs i)
  small_field v i (Some (ACode m ts)) e = omega arith
  small_field v i (Some (AExists t)) e = omega arith

  small_filled : (v : AVal) (i : ℕ) (o : Option ATy) → type_of p g v ≡ o → bulk (filled_of i o) ≤ n + value_weight v
  small_filled v i None e = omega arith
  small_filled v i (Some AInt) e = omega arith
  small_filled v i (Some (AVar j)) e = omega arith
  small_filled v zero (Some (ATuple fs)) e = omega arith
  small_filled v (suc i) (Some (ATuple fs)) e = omega (arith, small_value v (ATuple fs) e, bulk_filled fs i)
  small_filled v i (Some (ACode m ts)) e = omega arith
  small_filled v i (Some (AExists t)) e = omega arith

  pub small_declared : (x : ADecl) (m : ℕ) → n + decl_weight x ≤ m + 2 → All-small m (declared p g x)
  small_declared (Value v) m le = (omega (arith, small_or v (type_of p g v) refl), small_more n m g (omega arith) small)
  small_declared (Proj i v) m le =
      (omega (arith, small_field v i (type_of p g v) refl), small_more n m g (omega arith) small)
  small_declared (Arith o v w) m le = (omega arith, small_more n m g (omega arith) small)
  small_declared (Unpack v) m le = (
    omega (arith, small_body v (type_of p g v) refl),
    small_more n m (map (ashift 1 0) g) (omega arith)
        (small_shifted n g small),
  )
  small_declared (Malloc ts) m le = (omega (arith, bulk_unset ts), small_more n m g (omega arith) small)
  small_declared (Init v i w) m le =
      (omega (arith, small_filled v i (type_of p g v) refl), small_more n m g (omega arith) small)
