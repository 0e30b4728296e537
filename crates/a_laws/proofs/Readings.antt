-- Types that are read off, and what the properties of a hoisted program say of them.
use Rattle.std.proofs.Common.{◌≡◌, ℕ, zero, suc, List, [], ◌∷◌, Some, refl, sym, ap, ◌∙◌, subst, ap₂}
use Rattle.std.specs.Prelude.{map, slice_get, true}
use Rattle.a_laws.proofs.CLaws.{CLaws}
use Rattle.a_laws.proofs.Types.{apply_is, atype_suc}
use Rattle.a_laws.specs.Allocate.{Known, atype, atypes, datum_of, h_code, n_v, v_type, v_types}
use Rattle.a_terms.specs.Tree.{ACode, AProg, ATuple, ATy, MoreAFields, MoreATys, ashift}
use Rattle.a_terms.specs.Typing.{aapply, afield_flag, afield_type, aset, code_type, data_fields, or_int, types_of}
use Rattle.c_terms.specs.C.{CTy, CTys, MoreCTys, NoCTys, TCCode, ccount}
use Rattle.c_terms.specs.Each.{CAll, CProp}
use Rattle.c_terms.specs.Typing.{CAt, CField, cargs_onto, crens_scope}
use Rattle.h_terms.specs.Each.{HHasWith, HHaveWith}
use Rattle.h_terms.specs.H.{HApply, HBlk, HBlks, HInt, HLabel, HPack, HTuple, HVal, HVals, HVar, MoreHVals, NoHVals}
use Rattle.h_terms.specs.H.{block_at}
use Rattle.calc_core.specs.Ends.{lift}

pub at_read : (g : List CTy) (i : ℕ) (t : CTy) → CAt g i t → or_int (slice_get (map atype g) i) ≡ atype t
at_read [] i t h = absurd h
at_read (u ∷ g) zero t h = ap atype (sym h)
at_read (u ∷ g) (suc i) t h = at_read g i t h

module _ (Q : CProp) (law : CLaws) (ks : HBlks) where
  mutual
    pub type_read : (n : ℕ) (g : List CTy) (v : HVal) (t : CTy) → HHasWith Q ks n g v t →
        v_type ks (map atype g) v ≡ atype t
    type_read n g (HVar i) t h = at_read g i t h.1
    type_read n g (HInt m) t h = ap atype (sym h.1)
    type_read n g (HLabel l) t h = ap h_code h.1.1 ∙ ap atype (sym h.1.2)
    type_read n g (HTuple vs) t h =
        ap (λ x. ATuple (aset x)) (types_read n g vs h.1 h.3) ∙ ap atype (sym h.2)
    type_read n g (HApply v ts) t h =
        ap (λ u. or_int (aapply u (atypes ts))) (type_read n g v (TCCode (lift h.1 (ccount ts)) h.2) h.4)
        ∙ ap or_int (apply_is law ts h.1 h.2) ∙ ap atype (sym h.3)
    type_read n g (HPack hid v s) t h = ap atype (sym h.3)

    pub types_read : (n : ℕ) (g : List CTy) (vs : HVals) (ts : CTys) → HHaveWith Q ks n g vs ts →
        v_types ks (map atype g) vs ≡ atypes ts
    types_read n g NoHVals ts h = ap atypes (sym h)
    types_read n g (MoreHVals v vs) ts h =
        ap₂ MoreATys (type_read n g v h.0 h.3) (types_read n g vs h.1 h.4) ∙ ap atypes (sym h.2)

  -- the property of a value's type
  pub own_of : (n : ℕ) (g : List CTy) (v : HVal) (t : CTy) → HHasWith Q ks n g v t → Q n t
  own_of n g (HVar i) t h = h.0
  own_of n g (HInt m) t h = h.0
  own_of n g (HLabel l) t h = h.0
  own_of n g (HTuple vs) t h = h.0
  own_of n g (HApply v ts) t h = h.0
  own_of n g (HPack hid v s) t h = h.0

  pub owns : (n : ℕ) (g : List CTy) (vs : HVals) (ts : CTys) → HHaveWith Q ks n g vs ts → CAll Q n ts
  owns n g NoHVals ts h = subst (CAll Q n) (sym h) tt
  owns n g (MoreHVals v vs) ts h = subst (CAll Q n) (sym h.2) (own_of n g v h.0 h.3, owns n g vs h.1 h.4)

-- the types in scope under one more type variable, and those of a code's arguments
pub scope_shifted : CLaws → (g : List CTy) → map (ashift 1 0) (map atype g) ≡ map atype (crens_scope suc g)
scope_shifted law [] = refl
scope_shifted law (t ∷ g) = ap₂ (λ x xs. x ∷ xs) (sym (atype_suc law t)) (scope_shifted law g)

pub scope_args : (args : CTys) (g : List CTy) → types_of (atypes args) (map atype g) ≡ map atype (cargs_onto args g)
scope_args NoCTys g = refl
scope_args (MoreCTys t ts) g = scope_args ts (t ∷ g)

pub field_full : (i : ℕ) (us : CTys) (u : CTy) → CField i us u →
    (j : ℕ) × (i ≡ suc j) × (afield_type (aset (atypes us)) j ≡ Some (atype u))
    × (afield_flag (aset (atypes us)) j ≡ true)
field_full i NoCTys u h = absurd h
field_full zero (MoreCTys t us) u h = absurd h
field_full (suc zero) (MoreCTys t us) u h = (0, refl, ap (λ x. Some (atype x)) (sym h), refl)
field_full (suc (suc i)) (MoreCTys t us) u h = let r = field_full (suc i) us u h in (suc r.0, ap suc r.1, r.2, r.3)

-- each block has its type
abbrev pub Labels-of : HBlks → AProg → Type 0
Labels-of ks p = (l : ℕ) (k : HBlk) → block_at ks l ≡ Some k →
    code_type (slice_get p.blocks l) ≡ Some (ACode k.owes (atypes k.args))

-- the type of a data tuple
pub fields_are : (ks : HBlks) (g : List ATy) (ls : List Known) (b : ℕ) (vs : HVals) →
    data_fields (datum_of ks g ls b vs) ≡ aset (v_types ks g vs)
fields_are ks g ls b NoHVals = refl
fields_are ks g ls b (MoreHVals v vs) = ap (MoreAFields (v_type ks g v) true) (fields_are ks g ls (n_v ls b v) vs)
