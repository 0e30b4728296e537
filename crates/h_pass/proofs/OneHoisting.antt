-- The rule of hoisting leaves nothing to choose.
use Rattle.std.proofs.Common.{Bool, true, false, ◌≡◌, ◌+◌, ℕ, zero, suc, nat_eq, nat_lt, List, [], ◌∷◌, ◌++◌, cond}
use Rattle.std.proofs.Common.{refl, sym, ap, ap₂, ◌∙◌, subst, arith, append_assoc, eqb-true, length, ltb-true}
use Rattle.std.proofs.lemmas.Bool.{eqb-false}
use Rattle.c_terms.specs.C.{CApply, CArith, CCall, CCell, CCode, CDecl, CGet, CHalt, CIf, CInt, CLet, CName, CPack}
use Rattle.c_terms.specs.C.{CProj, CSet, CTm, CTuple, CUnpack, CVal, CVals, CVar, MoreCVals, NoCVals, ccount, cd_next}
use Rattle.c_terms.specs.C.{ct_next, cv_next}
use Rattle.h_terms.specs.H.{HApply, HArith, HBlks, HCall, HCell, HDecl, HGet, HHalt, HIf, HInt, HLabel, HLet, HName}
use Rattle.h_terms.specs.H.{HPack, HProj, HSet, HTm, HTuple, HUnpack, HVal, HVals, HVar, MoreHVals, NoHVals}
use Rattle.h_pass.proofs.Clean.{Clean_d, Clean_t, Clean_v, Clean_vs, clean_t}
use Rattle.h_pass.proofs.PutsBack.{many_d, many_t, many_v}
use Rattle.h_pass.proofs.Spots.{near, self}
use Rattle.h_pass.specs.Back.{BodiesInOrder, InOrder_d, InOrder_t, InOrder_v, InOrder_vs, Next, back_d, back_t, back_v}
use Rattle.h_pass.specs.Back.{back_vs, code_at, codes, codes_d, codes_t, codes_v, codes_vs, if_own, missing}
use Rattle.h_pass.specs.Hoist.{Code, Nobody, Own, block_of, blocks_d, blocks_t, blocks_v, blocks_vs, hoist_d}
use Rattle.h_pass.specs.Hoist.{hoist_t, hoist_v, hoist_vs, main_of, spot_value}
use Rattle.h_pass.specs.Statements.{OneHoisting}

-- a label stands for a code, or for what is missing
is_label : (a c : ℕ) (ks : HBlks) (l : ℕ) (own : Own) (d b : ℕ) → Clean_v (code_at a (codes c ks) l) →
    hoist_v own d b (code_at a (codes c ks) l) ≡ HLabel b
is_label a c [] l own d b h = absurd h.0
is_label zero c (k ∷ ks) zero own d b h = refl
is_label zero c (k ∷ ks) (suc l) own d b h = is_label zero (suc c) ks l own d b h
is_label (suc a) c (k ∷ ks) zero own d b h = absurd h.0
is_label (suc a) c (k ∷ ks) (suc l) own d b h = is_label a c (k ∷ ks) l own d b h

-- what is put back for labels in order is hoisted to them again
module _ (f : ℕ → CVal)
    (labels : (l : ℕ) (own : Own) (d b : ℕ) → Clean_v (f l) → hoist_v own d b (f l) ≡ HLabel b) where
  var_again : (own : Own) (d i b : ℕ) (x : Bool) → nat_lt i d ≡ x → Clean_v (cond x (CVar i) missing) →
      hoist_v own d b (cond x (CVar i) missing) ≡ HVar i
  var_again own d i b true e c = ap spot_value (near own d i (ltb-true i d e))
  var_again own d i b false e c = absurd c.0

  label_again : (own : Own) (d b l : ℕ) → l ≡ b → Clean_v (f l) → hoist_v own d b (f l) ≡ HLabel l
  label_again own d b l e c = labels l own d b c ∙ ap HLabel (sym e)

  own_again : (k d b l : ℕ) (x : Bool) → nat_eq k l ≡ x → Next (Code k) b l → Clean_v (if_own x (CVar d) (f l)) →
      hoist_v (Code k) d b (if_own x (CVar d) (f l)) ≡ HLabel l
  own_again k d b l true e o c = ap spot_value (self k d) ∙ ap HLabel (eqb-true k l e)
  own_again k d b l false e o c = label_again (Code k) d b l (o (eqb-false k l e)) c

  mutual
    again_v : (own : Own) (d b : ℕ) (v : HVal) → InOrder_v own d f b v → Clean_v (back_v own d f v) →
        hoist_v own d b (back_v own d f v) ≡ v
    again_v own d b (HVar i) o c = var_again own d i b (nat_lt i d) refl c
    again_v own d b (HInt n) o c = refl
    again_v Nobody d b (HLabel l) o c = label_again Nobody d b l o c
    again_v (Code k) d b (HLabel l) o c = own_again k d b l (nat_eq k l) refl o c
    again_v own d b (HTuple vs) o c = ap HTuple (again_vs own d b vs o c)
    again_v own d b (HApply v ts) o c = ap (λ x. HApply x ts) (again_v own d b v o c.1)
    again_v own d b (HPack h v s) o c = ap (λ x. HPack h x s) (again_v own d b v o c)

    again_vs : (own : Own) (d b : ℕ) (vs : HVals) → InOrder_vs own d f b vs → Clean_vs (back_vs own d f vs) →
        hoist_vs own d b (back_vs own d f vs) ≡ vs
    again_vs own d b NoHVals o c = refl
    again_vs own d b (MoreHVals v vs) o c =
        ap₂ MoreHVals (again_v own d b v o.0 c.0) (again_vs own d (cv_next b (back_v own d f v)) vs o.1 c.1)

  again_d : (own : Own) (d b : ℕ) (e : HDecl) → InOrder_d own d f b e → Clean_d (back_d own d f e) →
      hoist_d own d b (back_d own d f e) ≡ e
  again_d own d b (HName v) o c = ap HName (again_v own d b v o c)
  again_d own d b (HProj i v) o c = ap (HProj i) (again_v own d b v o c)
  again_d own d b (HArith op v w) o c =
      ap₂ (HArith op) (again_v own d b v o.0 c.0) (again_v own d (cv_next b (back_v own d f v)) w o.1 c.1)
  again_d own d b (HUnpack v) o c = ap HUnpack (again_v own d b v o c)
  again_d own d b (HCell v) o c = ap HCell (again_v own d b v o c)
  again_d own d b (HGet v) o c = ap HGet (again_v own d b v o c)
  again_d own d b (HSet v w) o c =
      ap₂ HSet (again_v own d b v o.0 c.0) (again_v own d (cv_next b (back_v own d f v)) w o.1 c.1)

  again_t : (own : Own) (d b : ℕ) (t : HTm) → InOrder_t own d f b t → Clean_t (back_t own d f t) →
      hoist_t own d b (back_t own d f t) ≡ t
  again_t own d b (HLet e t) o c =
      ap₂ HLet (again_d own d b e o.0 c.0) (again_t own (suc d) (cd_next b (back_d own d f e)) t o.1 c.1)
  again_t own d b (HCall g ts vs) o c =
      ap₂ (λ x xs. HCall x ts xs) (again_v own d b g o.0 c.0)
      (again_vs own d (cv_next b (back_v own d f g)) vs o.1 c.1)
  again_t own d b (HIf v t u) o c =
      let n = cv_next b (back_v own d f v) in
      let m = ct_next n (back_t own d f t) in
      ap₂ (λ x y. HIf x y (hoist_t own d m (back_t own d f u))) (again_v own d b v o.0 c.0)
      (again_t own d n t o.1 c.1)
      ∙ ap (HIf v t) (again_t own d m u o.2 c.2)
  again_t own d b (HHalt v) o c = ap HHalt (again_v own d b v o c)

-- the block of a code
abbrev blocks_for : ℕ → CVal → HBlks
blocks_for b (CCode owes args body) = block_of b owes args body ∷ []
blocks_for b v = []

-- the blocks of codes, one for one
abbrev blocks_from : ℕ → List CVal → HBlks
blocks_from b [] = []
blocks_from b (v ∷ vs) = blocks_for b v ++ blocks_from (suc b) vs

abbrev AllClean : List CVal → Type 0
AllClean [] = Unit {0}
AllClean (v ∷ vs) = Clean_v v × AllClean vs

-- blocks and codes: each block is that of its code, in which nothing is missing
record Fine (b : ℕ) (ks : HBlks) (vs : List CVal) : Type 0 where
  is : ks ≡ blocks_from b vs
  clean : AllClean vs

from_both : (b c : ℕ) (vs ws : List CVal) → c ≡ b + length vs →
    blocks_from b (vs ++ ws) ≡ blocks_from b vs ++ blocks_from c ws
from_both b c [] ws e = let same : b ≡ c = omega (arith, e) in ap (λ n. blocks_from n ws) same
from_both b c (v ∷ vs) ws e =
    ap (λ ks. blocks_for b v ++ ks) (from_both (suc b) c vs ws (omega (arith, e)))
    ∙ sym (append_assoc (blocks_for b v) (blocks_from (suc b) vs) (blocks_from c ws))

clean_both : (vs ws : List CVal) → AllClean vs → AllClean ws → AllClean (vs ++ ws)
clean_both [] ws h k = k
clean_both (v ∷ vs) ws h k = (h.0, clean_both vs ws h.1 k)

both : (b c : ℕ) (ks js : HBlks) (vs ws : List CVal) → c ≡ b + length vs → Fine b ks vs → Fine c js ws →
    Fine b (ks ++ js) (vs ++ ws)
both b c ks js vs ws e f g = record {
  is = ap₂ (λ x y. x ++ y) f.is g.is ∙ sym (from_both b c vs ws e);
  clean = clean_both vs ws f.clean g.clean;
}

mutual
  fine_v : (b : ℕ) (v : CVal) → Clean_v v → Fine b (blocks_v b v) (codes_v v)
  fine_v b (CVar i) c = record { is = refl; clean = tt }
  fine_v b (CInt n) c = record { is = refl; clean = tt }
  fine_v b (CTuple vs) c = fine_vs b vs c
  fine_v b (CCode owes args body) c =
      let r = fine_t (suc b) body c in
      record { is = ap (λ ks. block_of b owes args body ∷ ks) r.is; clean = (c, r.clean) }
  fine_v b (CApply v ts) c = fine_v b v c.1
  fine_v b (CPack h v s) c = fine_v b v c

  fine_vs : (b : ℕ) (vs : CVals) → Clean_vs vs → Fine b (blocks_vs b vs) (codes_vs vs)
  fine_vs b NoCVals c = record { is = refl; clean = tt }
  fine_vs b (MoreCVals v vs) c =
      let n = cv_next b v in
      both b n (blocks_v b v) (blocks_vs n vs) (codes_v v) (codes_vs vs) (many_v b v) (fine_v b v c.0)
      (fine_vs n vs c.1)

  fine_d : (b : ℕ) (e : CDecl) → Clean_d e → Fine b (blocks_d b e) (codes_d e)
  fine_d b (CName v) c = fine_v b v c
  fine_d b (CProj i v) c = fine_v b v c
  fine_d b (CArith op v w) c =
      let n = cv_next b v in
      both b n (blocks_v b v) (blocks_v n w) (codes_v v) (codes_v w) (many_v b v) (fine_v b v c.0) (fine_v n w c.1)
  fine_d b (CUnpack v) c = fine_v b v c
  fine_d b (CCell v) c = fine_v b v c
  fine_d b (CGet v) c = fine_v b v c
  fine_d b (CSet v w) c =
      let n = cv_next b v in
      both b n (blocks_v b v) (blocks_v n w) (codes_v v) (codes_v w) (many_v b v) (fine_v b v c.0) (fine_v n w c.1)

  fine_t : (b : ℕ) (t : CTm) → Clean_t t → Fine b (blocks_t b t) (codes_t t)
  fine_t b (CLet e t) c =
      let n = cd_next b e in
      both b n (blocks_d b e) (blocks_t n t) (codes_d e) (codes_t t) (many_d b e) (fine_d b e c.0) (fine_t n t c.1)
  fine_t b (CCall g ts vs) c =
      let n = cv_next b g in
      both b n (blocks_v b g) (blocks_vs n vs) (codes_v g) (codes_vs vs) (many_v b g) (fine_v b g c.0)
      (fine_vs n vs c.1)
  fine_t b (CIf v t u) c =
      let n = cv_next b v in
      let m = ct_next n t in
      both b n (blocks_v b v) (blocks_t n t ++ blocks_t m u) (codes_v v) (codes_t t ++ codes_t u) (many_v b v)
      (fine_v b v c.0)
      (both n m (blocks_t n t) (blocks_t m u) (codes_t t) (codes_t u) (many_t n t) (fine_t n t c.1) (fine_t m u c.2))
  fine_t b (CHalt v) c = fine_v b v c

blocks_again : (b : ℕ) (ks : HBlks) → BodiesInOrder b ks → AllClean (codes b ks) → ks ≡ blocks_from b (codes b ks)
blocks_again b [] o c = refl
blocks_again b (k ∷ ks) o c =
    let body = again_t (code_at (suc b) (codes (suc b) ks)) (is_label (suc b) (suc b) ks) (Code b) (ccount k.args)
    (suc b) k.body o.0 c.0 in
    ap₂ (λ t js. record { owes = k.owes; args = k.args; body = t } ∷ js) (sym body) (blocks_again (suc b) ks o.1 c.1)

pub one_hoisting : OneHoisting
one_hoisting ks t closed typed is =
    let clean = clean_t 0 [] closed typed in
    let fine = fine_t 0 closed clean in
    let main = again_t (code_at 0 (codes 0 ks)) (is_label 0 0 ks) Nobody 0 0 t is.order.0
    (subst Clean_t (sym is.back) clean) in (
      blocks_again 0 ks is.order.1 (subst AllClean (sym is.codes) fine.clean)
          ∙ ap (blocks_from 0) is.codes ∙ sym fine.is,
      sym main ∙ ap main_of is.back,
    )
