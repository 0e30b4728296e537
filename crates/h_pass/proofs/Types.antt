-- Hoisting keeps typing, with each property of types.
use Rattle.std.proofs.Common.{◌≡◌, ◌<◌, ℕ, zero, suc, Bool, true, false, List, [], ◌∷◌, ◌++◌, Some, refl, sym, ap, ◌∙◌}
use Rattle.std.proofs.Common.{subst, ap₂, arith}
use Rattle.calc_core.specs.Ends.{lift, under, after_one}
use Rattle.calc_core.specs.Calculus.{opens, scope_more}
use Rattle.calc_core.proofs.Lifts.{lift_suc, lift_zero}
use Rattle.c_terms.specs.C.{CApply, CArith, CCall, CCell, CCode, CGet, CHalt, CIf, CInt, CLet, CName, CPack, CProj}
use Rattle.c_terms.specs.C.{CSet, CTm, CTuple, CTy, CTys, CUnpack, CDecl, CVal, CVals, CVar, MoreCTys, MoreCVals}
use Rattle.c_terms.specs.C.{NoCTys}
use Rattle.c_terms.specs.C.{NoCVals, TCCode, TCInt, TCRef, TCExists, TCTuple, TCVar, ccount, cd_next, ct_next, cv_next}
use Rattle.c_terms.specs.Each.{CTypedWith, CGivesWith, CHasWith, CHaveWith, CProp}
use Rattle.c_terms.specs.Typing.{CAt, CIn, CIns, cargs_onto, cren, crens, crens_scope}
use Rattle.h_terms.specs.Each.{AllTypedWith, HTypedWith, HGivesWith, HHasWith, HHaveWith, HProgramWith}
use Rattle.h_terms.specs.H.{HBlk, HBlks, block_at}
use Rattle.h_pass.proofs.Hoisting.{HoldsD, HoldsT, HoldsV, HoldsVs, has_all, holds_t}
use Rattle.h_pass.specs.Hoist.{Code, Lost, Near, Nobody, Own, Self, Spot, block_of, blocks_d, blocks_of, blocks_t}
use Rattle.h_pass.specs.Hoist.{blocks_v}
use Rattle.h_pass.specs.Hoist.{blocks_vs, deeper, hoist_d, hoist_t, hoist_v, hoist_vs, main_of, spot, spot_value}

-- a renaming that leaves the first n alone changes nothing of a type that has no others
under_same : (m : ℕ) (r : ℕ → ℕ) (n : ℕ) → ((i : ℕ) → i < n → r i ≡ i) → (i : ℕ) → i < lift m n → under m r i ≡ i
under_same zero r n f i h = f i h
under_same (suc m) r n f zero h = refl
under_same (suc m) r n f (suc i) h = ap suc (under_same m r n f i (omega arith))

mutual
  ren_same : (t : CTy) (r : ℕ → ℕ) (n : ℕ) → ((i : ℕ) → i < n → r i ≡ i) → CIn n t → cren r t ≡ t
  ren_same TCInt r n f h = refl
  ren_same (TCVar i) r n f h = ap TCVar (f i h)
  ren_same (TCTuple ts) r n f h = ap TCTuple (rens_same ts r n f h)
  ren_same (TCCode m ts) r n f h = ap (TCCode m) (rens_same ts (under m r) (lift m n) (under_same m r n f) h)
  ren_same (TCRef t) r n f h = ap TCRef (ren_same t r n f h)
  ren_same (TCExists t) r n f h = ap TCExists (ren_same t (under 1 r) (suc n) (under_same 1 r n f) h)

  rens_same : (ts : CTys) (r : ℕ → ℕ) (n : ℕ) → ((i : ℕ) → i < n → r i ≡ i) → CIns n ts → crens r ts ≡ ts
  rens_same NoCTys r n f h = refl
  rens_same (MoreCTys t ts) r n f h = ap₂ MoreCTys (ren_same t r n f h.0) (rens_same ts r n f h.1)

closed_same : (owes : ℕ) (args : CTys) (r : ℕ → ℕ) → CIns owes args → cren r (TCCode owes args) ≡ TCCode owes args
closed_same owes args r h =
    ap (TCCode owes)
    (rens_same args (under owes r) (lift owes 0) (under_same owes r 0 (λ i e. absurd (omega arith)))
    (subst (λ n. CIns n args) (sym (lift_zero owes)) h))

-- a scope under d variables
abbrev pub OwnT : HBlks → Own → List CTy → List CTy → Type 0
OwnT ks Nobody cg hg = cg ≡ []
OwnT ks (Code l) cg hg = (k : HBlk) × (block_at ks l ≡ Some k) × CIns k.owes k.args × (cg ≡ TCCode k.owes k.args ∷ [])

abbrev pub ScopeT : HBlks → Own → ℕ → List CTy → List CTy → Type 0
ScopeT ks own zero cg hg = OwnT ks own cg hg
ScopeT ks own (suc d) [] hg = ⊥
ScopeT ks own (suc d) (c ∷ cg) [] = ⊥
ScopeT ks own (suc d) (c ∷ cg) (h ∷ hg) = (c ≡ h) × ScopeT ks own d cg hg

pub scope_ren : (ks : HBlks) (own : Own) (d : ℕ) (cg hg : List CTy) → ScopeT ks own d cg hg →
    ScopeT ks own d (crens_scope suc cg) (crens_scope suc hg)
scope_ren ks Nobody zero cg hg s = ap (crens_scope suc) s
scope_ren ks (Code l) zero cg hg s =
    (s.0, s.1, s.2, ap (crens_scope suc) s.3 ∙ ap (λ t. t ∷ []) (closed_same (s.0).owes (s.0).args suc s.2))
scope_ren ks own (suc d) [] hg s = absurd s
scope_ren ks own (suc d) (c ∷ cg) [] s = absurd s
scope_ren ks own (suc d) (c ∷ cg) (h ∷ hg) s = (ap (cren suc) s.0, scope_ren ks own d cg hg s.1)

scope_opened : (ks : HBlks) (own : Own) (d : ℕ) (cg hg : List CTy) → ScopeT ks own d cg hg → (o : Bool) →
    ScopeT ks own d (scope_more o cg) (scope_more o hg)
scope_opened ks own d cg hg s true = scope_ren ks own d cg hg s
scope_opened ks own d cg hg s false = s

-- a hoisted declaration names a type exactly where the closed one does
hoist_opens : (own : Own) (d b : ℕ) (e : CDecl) → opens (hoist_d own d b e) ≡ opens e
hoist_opens own d b (CName v) = refl
hoist_opens own d b (CProj i v) = refl
hoist_opens own d b (CArith op v w) = refl
hoist_opens own d b (CUnpack v) = refl
hoist_opens own d b (CCell v) = refl
hoist_opens own d b (CGet v) = refl
hoist_opens own d b (CSet v w) = refl

pub scope_onto : (ks : HBlks) (own : Own) (d : ℕ) (ts : CTys) (cg hg : List CTy) → ScopeT ks own d cg hg →
    ScopeT ks own (lift (ccount ts) d) (cargs_onto ts cg) (cargs_onto ts hg)
scope_onto ks own d NoCTys cg hg s = s
scope_onto ks own d (MoreCTys t ts) cg hg s =
    subst (λ k. ScopeT ks own k (cargs_onto ts (t ∷ cg)) (cargs_onto ts (t ∷ hg))) (lift_suc (ccount ts) d)
    (scope_onto ks own (suc d) ts (t ∷ cg) (t ∷ hg) (refl, s))

module _ (P : CProp) where
  deeper_has : (s : Spot) (ks : HBlks) (n : ℕ) (h t : CTy) (hg : List CTy) → HHasWith P ks n hg (spot_value s) t →
      HHasWith P ks n (h ∷ hg) (spot_value (deeper s)) t
  deeper_has (Near i) ks n h t hg p = p
  deeper_has (Self l) ks n h t hg p = p
  deeper_has Lost ks n h t hg p = p

  var_has : (ks : HBlks) (own : Own) (d i n : ℕ) (cg hg : List CTy) (t : CTy) → ScopeT ks own d cg hg → P n t →
      CAt cg i t → HHasWith P ks n hg (spot_value (spot own d i)) t
  var_has ks Nobody zero i n cg hg t s q h = absurd (subst (λ g. CAt g i t) s h)
  var_has ks (Code l) zero zero n cg hg t s q h = (q, (s.0, s.1, subst (λ g. CAt g 0 t) s.3 h))
  var_has ks (Code l) zero (suc i) n cg hg t s q h = absurd (subst (λ g. CAt g (suc i) t) s.3 h)
  var_has ks own (suc d) i n [] hg t s q h = absurd s
  var_has ks own (suc d) i n (c ∷ cg) [] t s q h = absurd s
  var_has ks own (suc d) zero n (c ∷ cg) (x ∷ hg) t s q h = (q, h ∙ s.0)
  var_has ks own (suc d) (suc i) n (c ∷ cg) (x ∷ hg) t s q h =
      deeper_has (spot own d i) ks n x t hg (var_has ks own d i n cg hg t s.1 q h)

  mutual
    hhas_v : (v : CVal) (ks : HBlks) (own : Own) (d b n : ℕ) (cg hg : List CTy) (t : CTy) → HoldsV ks b v →
        ScopeT ks own d cg hg → CHasWith P n cg v t → HHasWith P ks n hg (hoist_v own d b v) t
    hhas_v (CVar i) ks own d b n cg hg t k s h = var_has ks own d i n cg hg t s h.0 h.1
    hhas_v (CInt m) ks own d b n cg hg t k s h = h
    hhas_v (CTuple vs) ks own d b n cg hg t k s h = (h.0, h.1, h.2, hhave_vs vs ks own d b n cg hg h.1 k s h.3)
    hhas_v (CCode owes args body) ks own d b n cg hg t k s h = (h.0, (_, k.0, h.1))
    hhas_v (CApply v ts) ks own d b n cg hg t k s h =
        (h.0, h.1, h.2, h.3, hhas_v v ks own d b n cg hg _ k s h.4, h.5, h.6)
    hhas_v (CPack hid v shape) ks own d b n cg hg t k s h =
        (h.0, h.1, h.2, h.3, h.4, h.5, h.6, hhas_v v ks own d b n cg hg _ k s h.7)

    hhave_vs : (vs : CVals) (ks : HBlks) (own : Own) (d b n : ℕ) (cg hg : List CTy) (ts : CTys) → HoldsVs ks b vs →
        ScopeT ks own d cg hg → CHaveWith P n cg vs ts → HHaveWith P ks n hg (hoist_vs own d b vs) ts
    hhave_vs NoCVals ks own d b n cg hg ts k s h = h
    hhave_vs (MoreCVals v vs) ks own d b n cg hg ts k s h = (
      h.0,
      h.1,
      h.2,
      hhas_v v ks own d b n cg hg h.0 k.0 s h.3,
      hhave_vs vs ks own d (cv_next b v) n cg hg h.1 k.1 s h.4,
    )

  hgives_d : (e : CDecl) (ks : HBlks) (own : Own) (d b n : ℕ) (cg hg : List CTy) (t : CTy) → HoldsD ks b e →
      ScopeT ks own d cg hg → CGivesWith P n cg e t → HGivesWith P ks n hg (hoist_d own d b e) t
  hgives_d (CName v) ks own d b n cg hg t k s h = hhas_v v ks own d b n cg hg t k s h
  hgives_d (CProj i v) ks own d b n cg hg t k s h = (h.0, h.1, hhas_v v ks own d b n cg hg _ k s h.2, h.3)
  hgives_d (CArith op v w) ks own d b n cg hg t k s h =
      (h.0, h.1, hhas_v v ks own d b n cg hg _ k.0 s h.2, hhas_v w ks own d (cv_next b v) n cg hg _ k.1 s h.3)
  hgives_d (CUnpack v) ks own d b n cg hg t k s h = (h.0, hhas_v v ks own d b n cg hg _ k s h.1)
  hgives_d (CCell v) ks own d b n cg hg t k s h = (h.0, h.1, h.2, hhas_v v ks own d b n cg hg _ k s h.3)
  hgives_d (CGet v) ks own d b n cg hg t k s h = (h.0, hhas_v v ks own d b n cg hg _ k s h.1)
  hgives_d (CSet v w) ks own d b n cg hg t k s h =
      (h.0, h.1, h.2, hhas_v v ks own d b n cg hg _ k.0 s h.3, hhas_v w ks own d (cv_next b v) n cg hg _ k.1 s h.4)

  hgood_t : (t : CTm) (ks : HBlks) (own : Own) (d b n : ℕ) (cg hg : List CTy) → HoldsT ks b t → ScopeT ks own d cg hg →
      CTypedWith P n cg t → HTypedWith P ks n hg (hoist_t own d b t)
  hgood_t (CLet e t) ks own d b n cg hg k s h = (
    h.0,
    hgives_d e ks own d b n cg hg h.0 k.0 s h.1,
    subst (λ o. HTypedWith P ks (after_one o n) (h.0 ∷ scope_more o hg) (hoist_t own (suc d) (cd_next b e) t))
        (sym (hoist_opens own d b e))
        (hgood_t t ks own (suc d) (cd_next b e) (after_one (opens e) n) (h.0 ∷ scope_more (opens e) cg)
        (h.0 ∷ scope_more (opens e) hg) k.1 (refl, scope_opened ks own d cg hg s (opens e)) h.2),
  )
  hgood_t (CCall f ts vs) ks own d b n cg hg k s h =
      (h.0, hhas_v f ks own d b n cg hg _ k.0 s h.1, h.2, h.3, hhave_vs vs ks own d (cv_next b f) n cg hg _ k.1 s h.4)
  hgood_t (CIf v t u) ks own d b n cg hg k s h = (
    hhas_v v ks own d b n cg hg TCInt k.0 s h.0,
    hgood_t t ks own d (cv_next b v) n cg hg k.1 s h.1,
    hgood_t u ks own d (ct_next (cv_next b v) t) n cg hg k.2 s h.2,
  )
  hgood_t (CHalt v) ks own d b n cg hg k s h = hhas_v v ks own d b n cg hg TCInt k s h

  -- the blocks
  all_append : (ks xs ys : HBlks) → AllTypedWith P ks xs → AllTypedWith P ks ys → AllTypedWith P ks (xs ++ ys)
  all_append ks [] ys h q = q
  all_append ks (x ∷ xs) ys h q = (h.0, all_append ks xs ys h.1 q)

  mutual
    good_v : (v : CVal) (ks : HBlks) (b n : ℕ) (cg : List CTy) (t : CTy) → HoldsV ks b v → CHasWith P n cg v t →
        AllTypedWith P ks (blocks_v b v)
    good_v (CVar i) ks b n cg t k h = tt
    good_v (CInt m) ks b n cg t k h = tt
    good_v (CTuple vs) ks b n cg t k h = good_vs vs ks b n cg h.1 k h.3
    good_v (CCode owes args body) ks b n cg t k h = (
      (
        h.2,
        h.3,
        hgood_t body ks (Code b) (ccount args) (suc b) owes (cargs_onto args (TCCode owes args ∷ []))
            (cargs_onto args []) k.1
            (subst (λ d. ScopeT ks (Code b) d (cargs_onto args (TCCode owes args ∷ [])) (cargs_onto args []))
            (lift_zero (ccount args))
            (scope_onto ks (Code b) 0 args (TCCode owes args ∷ []) [] (block_of b owes args body, k.0, h.2, refl)))
            h.4,
      ),
      good_t body ks (suc b) owes (cargs_onto args (TCCode owes args ∷ [])) k.1 h.4,
    )
    good_v (CApply v ts) ks b n cg t k h = good_v v ks b n cg _ k h.4
    good_v (CPack hid v shape) ks b n cg t k h = good_v v ks b n cg _ k h.7

    good_vs : (vs : CVals) (ks : HBlks) (b n : ℕ) (cg : List CTy) (ts : CTys) → HoldsVs ks b vs → CHaveWith P n cg vs ts
        →
        AllTypedWith P ks (blocks_vs b vs)
    good_vs NoCVals ks b n cg ts k h = tt
    good_vs (MoreCVals v vs) ks b n cg ts k h =
        all_append ks (blocks_v b v) _ (good_v v ks b n cg h.0 k.0 h.3) (good_vs vs ks (cv_next b v) n cg h.1 k.1 h.4)

    good_d : (d : CDecl) (ks : HBlks) (b n : ℕ) (cg : List CTy) (t : CTy) → HoldsD ks b d → CGivesWith P n cg d t →
        AllTypedWith P ks (blocks_d b d)
    good_d (CName v) ks b n cg t k h = good_v v ks b n cg _ k h
    good_d (CProj i v) ks b n cg t k h = good_v v ks b n cg _ k h.2
    good_d (CArith op v w) ks b n cg t k h =
        all_append ks (blocks_v b v) _ (good_v v ks b n cg _ k.0 h.2) (good_v w ks (cv_next b v) n cg _ k.1 h.3)
    good_d (CUnpack v) ks b n cg t k h = good_v v ks b n cg _ k h.1
    good_d (CCell v) ks b n cg t k h = good_v v ks b n cg _ k h.3
    good_d (CGet v) ks b n cg t k h = good_v v ks b n cg _ k h.1
    good_d (CSet v w) ks b n cg t k h =
        all_append ks (blocks_v b v) _ (good_v v ks b n cg _ k.0 h.3) (good_v w ks (cv_next b v) n cg _ k.1 h.4)

    good_t : (t : CTm) (ks : HBlks) (b n : ℕ) (cg : List CTy) → HoldsT ks b t → CTypedWith P n cg t →
        AllTypedWith P ks (blocks_t b t)
    good_t (CLet d t) ks b n cg k h =
        all_append ks (blocks_d b d) _ (good_d d ks b n cg _ k.0 h.1) (good_t t ks (cd_next b d) _ _ k.1 h.2)
    good_t (CCall f ts vs) ks b n cg k h =
        all_append ks (blocks_v b f) _ (good_v f ks b n cg _ k.0 h.1) (good_vs vs ks (cv_next b f) n cg _ k.1 h.4)
    good_t (CIf v t u) ks b n cg k h =
        all_append ks (blocks_v b v) _ (good_v v ks b n cg TCInt k.0 h.0)
        (all_append ks (blocks_t (cv_next b v) t) _ (good_t t ks (cv_next b v) n cg k.1 h.1)
        (good_t u ks (ct_next (cv_next b v) t) n cg k.2 h.2))
    good_t (CHalt v) ks b n cg k h = good_v v ks b n cg TCInt k h

pub hoist_each : (P : CProp) (t : CTm) → CTypedWith P 0 [] t → HProgramWith P (blocks_of t) (main_of t)
hoist_each P t h =
    let ks = blocks_of t in
    let holds = holds_t t ks 0 (has_all [] (blocks_t 0 t)) in
    (good_t P t ks 0 0 [] holds h, hgood_t P t ks Nobody 0 0 0 [] [] holds refl h)
