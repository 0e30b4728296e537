-- Types before and after allocation.
use Rattle.std.proofs.Common.{◌≡◌, ℕ, zero, suc, ◌+◌, ◌-◌, Some, refl, sym, ap, ap₂, ◌∙◌}
use Rattle.std.specs.Prelude.{Bool, true, false, nat_lt, ◌==◌, if◌then◌else◌, option_map}
use Rattle.idx_core.specs.Over.{At, deep, shifted, putted, BelowAt, AnyDepth}
use Rattle.idx_core.specs.Steps.{over_same}
use Rattle.calc_core.specs.Ends.{lift}
use Rattle.c_terms.specs.C.{CTy, CTys, TCInt, TCVar, TCTuple, TCCode, TCExists, TCRef, NoCTys, MoreCTys, ccount}
use Rattle.c_terms.specs.Typing.{cren, CIn, CIns, scons, csub, csubs, cup, names}
use Rattle.c_terms.specs.Puts.{cputs, capply}
use Rattle.calc_core.specs.Walks as c
use Rattle.a_terms.specs.Tree.{ATy, AVar, ATuple, ACode, AExists, MoreATys, NoAFields, MoreAFields, over}
use Rattle.a_terms.specs.Tree.{over_types, over_fields, ashift, aput, aput_types, ABelow, ABelow-types}
use Rattle.a_terms.specs.Tree as a
use Rattle.a_terms.specs.TreeLaws.{a_part, a_over, a_types_over}
use Rattle.a_terms.specs.Typing.{aapply, aset}
use Rattle.a_laws.specs.Allocate.{atype, atypes}
use Rattle.a_laws.proofs.CLaws.{CLaws}

-- what stands for the variables, allocated
abbrev allocated : At CTy → At ATy
allocated f d i = atype (f d i)

mutual
  atype_over : (f : At CTy) (d : ℕ) (t : CTy) → atype (c.over f d t) ≡ over (allocated f) d (atype t)
  atype_over f d TCInt = refl
  atype_over f d (TCVar i) = refl
  atype_over f d (TCTuple ts) = ap ATuple (fields_over f d ts)
  atype_over f d (TCCode n ts) = ap (ACode n) (atypes_over f (d + n) ts)
  atype_over f d (TCExists t) = ap AExists (atype_over f (d + 1) t)
  atype_over f d (TCRef t) = ap (λ x. ATuple (MoreAFields x true NoAFields)) (atype_over f d t)

  atypes_over : (f : At CTy) (d : ℕ) (ts : CTys) → atypes (c.over_all f d ts) ≡ over_types (allocated f) d (atypes ts)
  atypes_over f d NoCTys = refl
  atypes_over f d (MoreCTys t ts) = ap₂ MoreATys (atype_over f d t) (atypes_over f d ts)

  fields_over : (f : At CTy) (d : ℕ) (ts : CTys) →
      aset (atypes (c.over_all f d ts)) ≡ over_fields (allocated f) d (aset (atypes ts))
  fields_over f d NoCTys = refl
  fields_over f d (MoreCTys t ts) = ap₂ (λ x y. MoreAFields x true y) (atype_over f d t) (fields_over f d ts)

atype_if : (b : Bool) (s t : CTy) → atype (if b then s else t) ≡ (if b then atype s else atype t)
atype_if true s t = refl
atype_if false s t = refl

shifted_allocated : (k d i : ℕ) → atype (shifted TCVar k d i) ≡ shifted AVar k d i
shifted_allocated k d i = atype_if (nat_lt i d) (TCVar i) (TCVar (i + k))

atype_shift : (t : CTy) (k d : ℕ) → atype (c.shift k d t) ≡ ashift k d (atype t)
atype_shift t k d = atype_over (shifted TCVar k) d t
    ∙ over_same a_part a_over (allocated (shifted TCVar k)) (shifted AVar k) d d
    (λ e i. shifted_allocated k (deep d e) i) (atype t)

putted_allocated : (n : ℕ) (s : CTy) (d i : ℕ) → atype (putted TCVar c.over n s d i) ≡ putted AVar over n (atype s) d i
putted_allocated n s d i =
    atype_if (nat_lt i d) (TCVar i) (if i == d then c.shift (d - n) 0 s else TCVar (i - 1))
    ∙ ap (λ x. if nat_lt i d then AVar i else x)
    (atype_if (i == d) (c.shift (d - n) 0 s) (TCVar (i - 1))
    ∙ ap (λ x. if i == d then x else AVar (i - 1)) (atype_shift s (d - n) 0))

atype_put : (t : CTy) (n : ℕ) (s : CTy) → atype (c.put n s t) ≡ aput n (atype s) (atype t)
atype_put t n s =
    atype_over (putted TCVar c.over n s) n t
    ∙ over_same a_part a_over (allocated (putted TCVar c.over n s)) (putted AVar over n (atype s)) n n
    (λ e i. putted_allocated n s (deep n e) i) (atype t)

atypes_put : (ts : CTys) (n : ℕ) (s : CTy) → atypes (c.over_all (putted TCVar c.over n s) n ts)
    ≡ aput_types n (atype s) (atypes ts)
atypes_put ts n s =
    atypes_over (putted TCVar c.over n s) n ts
    ∙ over_same a_part a_types_over (allocated (putted TCVar c.over n s)) (putted AVar over n (atype s)) n n
    (λ e i. putted_allocated n s (deep n e) i) (atypes ts)

-- scope
mutual
  in_scope : (t : CTy) (n : ℕ) → c.Below n t → ABelow n (atype t)
  in_scope TCInt n h = tt
  in_scope (TCVar i) n h = h
  in_scope (TCTuple ts) n h = fields_in_scope ts n h
  in_scope (TCCode m ts) n h = (tt, types_in_scope ts (n + m) h.1)
  in_scope (TCExists t) n h = (tt, in_scope t (n + 1) h.1)
  in_scope (TCRef t) n h = (in_scope t n h, tt)

  types_in_scope : (ts : CTys) (n : ℕ) → c.each_all BelowAt AnyDepth n ts → ABelow-types n (atypes ts)
  types_in_scope NoCTys n h = tt
  types_in_scope (MoreCTys t ts) n h = (in_scope t n h.0, types_in_scope ts n h.1)

  fields_in_scope : (ts : CTys) (n : ℕ) → c.each_all BelowAt AnyDepth n ts → a.ABelow-fields n (aset (atypes ts))
  fields_in_scope NoCTys n h = tt
  fields_in_scope (MoreCTys t ts) n h = (in_scope t n h.0, fields_in_scope ts n h.1)

module _ (law : CLaws) where
  suc_is : (t : CTy) → cren suc t ≡ cren (lift 1) t
  suc_is t = refl

  pub atype_lift : (t : CTy) (m : ℕ) → atype (cren (lift m) t) ≡ ashift m 0 (atype t)
  atype_lift t m = ap atype (law.lifts m t) ∙ atype_shift t m 0

  pub atype_suc : (t : CTy) → atype (cren suc t) ≡ ashift 1 0 (atype t)
  atype_suc t = ap atype (suc_is t) ∙ atype_lift t 1

  -- what is packed
  pub atype_hidden : (h u : CTy) → atype (csub (scons h TCVar) u) ≡ aput 0 (atype h) (atype u)
  atype_hidden h u = ap atype (law.puts h u) ∙ atype_put u 0 h

  puts_are : (n : ℕ) (s : CTy) (ts : CTys) → cputs n s ts ≡ c.over_all (putted TCVar c.over n s) n ts
  puts_are n s NoCTys = refl
  puts_are n s (MoreCTys t ts) = ap₂ MoreCTys (law.one n s t) (puts_are n s ts)

  -- types applied
  pub atype_apply : (ts : CTys) (t : CTy) → aapply (atype t) (atypes ts) ≡ option_map atype (capply t ts)
  atype_apply NoCTys t = refl
  atype_apply (MoreCTys u us) TCInt = refl
  atype_apply (MoreCTys u us) (TCVar i) = refl
  atype_apply (MoreCTys u us) (TCTuple ts) = refl
  atype_apply (MoreCTys u us) (TCExists t) = refl
  atype_apply (MoreCTys u us) (TCRef t) = refl
  atype_apply (MoreCTys u us) (TCCode zero args) = refl
  atype_apply (MoreCTys u us) (TCCode (suc n) args) =
      ap (λ x. aapply (ACode n (aput_types n x (atypes args))) (atypes us)) (sym (atype_lift u n))
      ∙ ap (λ x. aapply (ACode n x) (atypes us))
      (sym (ap atypes (puts_are n (cren (lift n) u) args) ∙ atypes_put args n (cren (lift n) u)))
      ∙ atype_apply us (TCCode n (cputs n (cren (lift n) u) args))

  pub apply_is : (ts : CTys) (owes : ℕ) (args : CTys) →
      aapply (ACode (lift owes (ccount ts)) (atypes args)) (atypes ts)
      ≡ Some (ACode owes (atypes (csubs (cup owes (names ts TCVar)) args)))
  apply_is ts owes args =
      atype_apply ts (TCCode (lift owes (ccount ts)) args) ∙ ap (option_map atype) (law.by_one ts owes args)

  pub below_is : (t : CTy) (n : ℕ) → CIn n t → ABelow n (atype t)
  below_is t n h = in_scope t n ((law.scopes n t).0 h)

  pub types_below : (ts : CTys) (n : ℕ) → CIns n ts → ABelow-types n (atypes ts)
  types_below NoCTys n h = tt
  types_below (MoreCTys t ts) n h = (below_is t n h.0, types_below ts n h.1)
