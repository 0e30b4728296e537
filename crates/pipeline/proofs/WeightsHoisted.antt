-- Hoisting keeps the weight.
use Rattle.std.proofs.Common.{◌≡◌, ℕ, suc, ◌+◌, List, [], ◌∷◌, ◌++◌, refl, arith}
use Rattle.c_terms.specs.C.{CApply, CArith, CCall, CCell, CCode, CDecl, CGet, CHalt, CIf, CInt, CLet, CName, CPack}
use Rattle.c_terms.specs.C.{CProj, CSet, CTm, CTuple, CUnpack, CVal, CVals, CVar, MoreCVals, NoCVals, ccount, cd_next}
use Rattle.c_terms.specs.C.{ct_next, cv_next}
use Rattle.h_terms.specs.H.{HArith, HBlk, HCall, HCell, HDecl, HGet, HHalt, HIf, HLet, HName, HProj, HSet, HTm, HUnpack}
use Rattle.h_pass.specs.Hoist.{Code, Own, blocks_d, blocks_t, blocks_v, blocks_vs, hoist_d, hoist_t}
use Rattle.pipeline.specs.Weights.{Weights}
use Rattle.pipeline.proofs.WeightsClosed.{c_v, c_vs, c_d, c_t}

abbrev pub h_d : Weights → HDecl → ℕ
h_d w (HName v) = 0
h_d w (HProj i v) = 0
h_d w (HArith op v u) = w.operation op
h_d w (HUnpack v) = w.opening
h_d w (HCell v) = 0
h_d w (HGet v) = 0
h_d w (HSet v u) = 0

abbrev pub h_t : Weights → HTm → ℕ
h_t w (HLet d t) = h_d w d + h_t w t
h_t w (HCall f ts vs) = w.jump
h_t w (HIf v t u) = w.choice + (h_t w t + h_t w u)
h_t w (HHalt v) = w.halting

abbrev pub h_all : Weights → List HBlk → ℕ
h_all w [] = 0
h_all w (x ∷ xs) = h_t w x.body + h_all w xs

module _ (w : Weights) where
  all_more : (xs ys : List HBlk) → h_all w (xs ++ ys) ≡ h_all w xs + h_all w ys
  all_more [] ys = omega arith
  all_more (x ∷ xs) ys = let r = all_more xs ys in omega (arith, r)

  mutual
    of_v : (v : CVal) (b : ℕ) → h_all w (blocks_v b v) ≡ c_v w v
    of_v (CVar i) b = refl
    of_v (CInt n) b = refl
    of_v (CTuple vs) b = of_vs vs b
    of_v (CCode owes args body) b = let r = hoisted_weight body (Code b) (ccount args) (suc b) in omega (arith, r)
    of_v (CApply v ts) b = of_v v b
    of_v (CPack h v s) b = of_v v b

    of_vs : (vs : CVals) (b : ℕ) → h_all w (blocks_vs b vs) ≡ c_vs w vs
    of_vs NoCVals b = refl
    of_vs (MoreCVals v vs) b =
        let next = cv_next b v in
        omega (arith, of_v v b, of_vs vs next, all_more (blocks_v b v) (blocks_vs next vs))

    of_d : (e : CDecl) (own : Own) (d b : ℕ) → h_d w (hoist_d own d b e) + h_all w (blocks_d b e) ≡ c_d w e
    of_d (CName v) own d b = omega (arith, of_v v b)
    of_d (CProj i v) own d b = omega (arith, of_v v b)
    of_d (CArith op v u) own d b =
        let next = cv_next b v in
        omega (arith, of_v v b, of_v u next, all_more (blocks_v b v) (blocks_v next u))
    of_d (CUnpack v) own d b = omega (arith, of_v v b)
    of_d (CCell v) own d b = omega (arith, of_v v b)
    of_d (CGet v) own d b = omega (arith, of_v v b)
    of_d (CSet v u) own d b =
        let next = cv_next b v in
        omega (arith, of_v v b, of_v u next, all_more (blocks_v b v) (blocks_v next u))

    pub hoisted_weight : (t : CTm) (own : Own) (d b : ℕ) → h_t w (hoist_t own d b t) + h_all w (blocks_t b t) ≡ c_t w t
    hoisted_weight (CLet e t) own d b =
        let next = cd_next b e in
        let x = of_d e own d b in
        let y = hoisted_weight t own (suc d) next in
        omega (arith, x, y, all_more (blocks_d b e) (blocks_t next t))
    hoisted_weight (CCall f ts vs) own d b =
        let next = cv_next b f in
        omega (arith, of_v f b, of_vs vs next, all_more (blocks_v b f) (blocks_vs next vs))
    hoisted_weight (CIf v t u) own d b =
        let next = cv_next b v in
        let last = ct_next next t in
        let x = of_v v b in
        let y = hoisted_weight t own d next in
        let z = hoisted_weight u own d last in
        let p = all_more (blocks_v b v) (blocks_t next t ++ blocks_t last u) in
        let q = all_more (blocks_t next t) (blocks_t last u) in
        omega (arith, x, y, z, p, q)
    hoisted_weight (CHalt v) own d b = omega (arith, of_v v b)
