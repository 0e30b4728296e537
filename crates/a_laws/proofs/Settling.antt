-- Where its tuples of constants hold no variables, a program stays as it is when these are written out.
use Rattle.std.proofs.Common.{◌≡◌, [], ◌∷◌, Option, Some, None, refl, ap, ap₂, ◌∙◌, subst}
use Rattle.std.specs.Prelude.{Bool, true, false, ◌&&◌, not, option_map}
use Rattle.a_laws.specs.Allocate.{all_closed, atype, atypes, closed, is_label}
use Rattle.a_laws.specs.Back.{Settled}
use Rattle.a_laws.specs.Constants.{Bare_if, Bare_v, Bare_vs, Constants, Plain_all, Plain_t, Plain_v, Plain_vs, constant}
use Rattle.a_laws.specs.Constants.{constants, is_package, of_args, or_else, packed, settle_all, settle_t, settle_v}
use Rattle.a_laws.specs.Constants.{settle_vs, two}
use Rattle.a_terms.specs.Meaning.{pick}
use Rattle.c_terms.specs.C.{CTy}
use Rattle.h_terms.specs.H.{HApply, HArith, HBlks, HCall, HCell, HGet, HHalt, HIf, HInt, HLabel, HLet, HName, HPack}
use Rattle.h_terms.specs.H.{HProj, HSet, HTm, HTuple, HUnpack, HVal, HVals, HVar, MoreHVals, NoHVals}

-- a constant that is the value itself
abbrev Self : Option HVal → HVal → Type 0
Self None v = Unit {0}
Self (Some c) v = c ≡ v

abbrev Selves : Option HVals → HVals → Type 0
Selves None vs = Unit {0}
Selves (Some cs) vs = cs ≡ vs

tuple_self : (o : Option HVals) (vs : HVals) → Selves o vs → Self (option_map HTuple o) (HTuple vs)
tuple_self None vs s = tt
tuple_self (Some cs) vs s = ap HTuple s

pick_self : (q : Bool) (c v : HVal) → c ≡ v → Self (pick q (Some c) None) v
pick_self true c v e = e
pick_self false c v e = tt

packed_self : (h s : CTy) (o : Option HVal) (v : HVal) → Self o v → Self (packed h s o) (HPack h v s)
packed_self h s None v e = tt
packed_self h s (Some c) v e =
    pick_self (not (is_package c) && (closed 0 (atype h) && closed 0 (atype s))) (HPack h c s) (HPack h v s)
    (ap (λ x. HPack h x s) e)

two_self : (o : Option HVal) (os : Option HVals) (v : HVal) (vs : HVals) → Self o v → Selves os vs →
    Selves (two o os) (MoreHVals v vs)
two_self None os v vs a b = tt
two_self (Some c) None v vs a b = tt
two_self (Some c) (Some cs) v vs a b = ap₂ MoreHVals a b

mutual
  bare_self : (v : HVal) (os : Constants) → Bare_v v → Self (constant os v) v
  bare_self (HVar i) os b = absurd b
  bare_self (HInt n) os b = refl
  bare_self (HLabel l) os b = refl
  bare_self (HTuple vs) os b = tuple_self (constants os vs) vs (bare_selves vs os b)
  bare_self (HApply v ts) os b = pick_self (is_label v && all_closed 0 (atypes ts)) (HApply v ts) (HApply v ts) refl
  bare_self (HPack h v s) os b = packed_self h s (constant os v) v (bare_self v os b)

  bare_selves : (vs : HVals) (os : Constants) → Bare_vs vs → Selves (constants os vs) vs
  bare_selves NoHVals os b = refl
  bare_selves (MoreHVals v vs) os b =
      two_self (constant os v) (constants os vs) v vs (bare_self v os b.0) (bare_selves vs os b.1)

tuple_same : (os : Constants) (vs us : HVals) (o : Option HVal) → constant os (HTuple vs) ≡ o → Bare_if o vs →
    us ≡ vs → or_else o (HTuple us) ≡ HTuple vs
tuple_same os vs us None e b f = ap HTuple f
tuple_same os vs us (Some c) e b f = subst (λ o. Self o (HTuple vs)) e (bare_self (HTuple vs) os b)

mutual
  value_same : (v : HVal) (os : Constants) → Plain_v os v → settle_v os v ≡ v
  value_same (HVar i) os p = refl
  value_same (HInt n) os p = refl
  value_same (HLabel l) os p = refl
  value_same (HTuple vs) os p =
      tuple_same os vs (settle_vs os vs) (constant os (HTuple vs)) refl p.0 (values_same vs os p.1)
  value_same (HApply v ts) os p = ap (λ x. HApply x ts) (value_same v os p)
  value_same (HPack h v s) os p = ap (λ x. HPack h x s) (value_same v os p)

  values_same : (vs : HVals) (os : Constants) → Plain_vs os vs → settle_vs os vs ≡ vs
  values_same NoHVals os p = refl
  values_same (MoreHVals v vs) os p = ap₂ MoreHVals (value_same v os p.0) (values_same vs os p.1)

term_same : (t : HTm) (os : Constants) → Plain_t os t → settle_t os t ≡ t
term_same (HLet (HName v) t) os p =
    ap₂ (λ x y. HLet (HName x) y) (value_same v os p.0) (term_same t (constant os v ∷ os) p.1)
term_same (HLet (HProj i v) t) os p =
    ap₂ (λ x y. HLet (HProj i x) y) (value_same v os p.0) (term_same t (None ∷ os) p.1)
term_same (HLet (HArith op v w) t) os p =
    ap₂ (λ x y. HLet (HArith op x y) (settle_t (None ∷ os) t)) (value_same v os p.0.0) (value_same w os p.0.1)
    ∙ ap (HLet (HArith op v w)) (term_same t (None ∷ os) p.1)
term_same (HLet (HUnpack v) t) os p =
    ap₂ (λ x y. HLet (HUnpack x) y) (value_same v os p.0) (term_same t (None ∷ os) p.1)
term_same (HLet (HCell v) t) os p = ap₂ (λ x y. HLet (HCell x) y) (value_same v os p.0) (term_same t (None ∷ os) p.1)
term_same (HLet (HGet v) t) os p = ap₂ (λ x y. HLet (HGet x) y) (value_same v os p.0) (term_same t (None ∷ os) p.1)
term_same (HLet (HSet v w) t) os p =
    ap₂ (λ x y. HLet (HSet x y) (settle_t (None ∷ os) t)) (value_same v os p.0.0) (value_same w os p.0.1)
    ∙ ap (HLet (HSet v w)) (term_same t (None ∷ os) p.1)
term_same (HCall f ts vs) os p = ap₂ (λ x y. HCall x ts y) (value_same f os p.0) (values_same vs os p.1)
term_same (HIf v t u) os p =
    ap₂ (λ x y. HIf x y (settle_t os u)) (value_same v os p.0) (term_same t os p.1) ∙ ap (HIf v t) (term_same u os p.2)
term_same (HHalt v) os p = ap HHalt (value_same v os p)

all_same : (ks : HBlks) → Plain_all ks → settle_all ks ≡ ks
all_same [] p = refl
all_same (k ∷ ks) p =
    ap₂ (λ x y. record { owes = k.owes; args = k.args; body = x } ∷ y) (term_same k.body (of_args k.args []) p.0)
    (all_same ks p.1)

pub settled : Settled
settled ks t p q = (all_same ks p, term_same t [] q)
