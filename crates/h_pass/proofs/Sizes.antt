-- Hoisting keeps the size of each body, and the number of choices.
use Rattle.std.proofs.Common.{◌≡◌, ℕ, suc, ◌+◌, List, [], ◌∷◌, ◌++◌, refl, ap, arith}
use Rattle.c_terms.specs.Bound.{CFits}
use Rattle.c_terms.specs.C.{CApply, CArith, CCall, CCell, CCode, CGet, CHalt, CIf, CInt, CLet, CName, CPack, CProj}
use Rattle.c_terms.specs.C.{CSet, CTm, CTuple, CUnpack, CVal, CVals, CVar, MoreCVals, NoCVals, ccount, ct_next}
use Rattle.c_terms.specs.C.{cv_next}
use Rattle.c_terms.specs.Reach.{CWithin}
use Rattle.c_terms.specs.Size.{CSmall, CSmall_t, CSmall_v, CSmall_vs, cifs_t, cifs_v, cifs_vs, cown_t, cown_v, cown_vs}
use Rattle.h_terms.specs.Bound.{HFits}
use Rattle.h_terms.specs.H.{HBlk}
use Rattle.h_terms.specs.Size.{HAllSmall, HSmall, all_hifs, hifs_t, hsize_t, hsize_v, hsize_vs}
use Rattle.h_pass.proofs.Hoisting.{len_t}
use Rattle.h_pass.proofs.Types.{hoist_each}
use Rattle.h_pass.specs.Hoist.{Code, Lost, Near, Nobody, Own, Self, Spot, blocks_of, blocks_t, blocks_v, blocks_vs}
use Rattle.h_pass.specs.Hoist.{hoist_t, hoist_v, hoist_vs, main_of, spot, spot_value}

-- hoisting keeps the sizes
spot_size : (s : Spot) → hsize_v (spot_value s) ≡ 1
spot_size (Near i) = refl
spot_size (Self l) = refl
spot_size Lost = refl

mutual
  same_v : (v : CVal) (own : Own) (d b : ℕ) → hsize_v (hoist_v own d b v) ≡ cown_v v
  same_v (CVar i) own d b = spot_size (spot own d i)
  same_v (CInt n) own d b = refl
  same_v (CTuple vs) own d b = ap suc_of (same_vs vs own d b)
    where
      suc_of : ℕ → ℕ
      suc_of k = 1 + k
  same_v (CCode owes args body) own d b = refl
  same_v (CApply v ts) own d b = let r = same_v v own d b in omega (arith, r)
  same_v (CPack h v s) own d b = let r = same_v v own d b in omega (arith, r)

  same_vs : (vs : CVals) (own : Own) (d b : ℕ) → hsize_vs (hoist_vs own d b vs) ≡ cown_vs vs
  same_vs NoCVals own d b = refl
  same_vs (MoreCVals v vs) own d b =
      let x = same_v v own d b in let y = same_vs vs own d (cv_next b v) in omega (arith, x, y)

same_t : (t : CTm) (own : Own) (d b : ℕ) → hsize_t (hoist_t own d b t) ≡ cown_t t
same_t (CLet (CName v) t) own d b =
    let x = same_v v own d b in let y = same_t t own (suc d) (cv_next b v) in omega (arith, x, y)
same_t (CLet (CProj i v) t) own d b =
    let x = same_v v own d b in let y = same_t t own (suc d) (cv_next b v) in omega (arith, x, y)
same_t (CLet (CArith op v w) t) own d b =
    let x = same_v v own d b in
    let z = same_v w own d (cv_next b v) in
    let y = same_t t own (suc d) (cv_next (cv_next b v) w) in omega (arith, x, y, z)
same_t (CLet (CUnpack v) t) own d b =
    let x = same_v v own d b in let y = same_t t own (suc d) (cv_next b v) in omega (arith, x, y)
same_t (CLet (CCell v) t) own d b =
    let x = same_v v own d b in let y = same_t t own (suc d) (cv_next b v) in omega (arith, x, y)
same_t (CLet (CGet v) t) own d b =
    let x = same_v v own d b in let y = same_t t own (suc d) (cv_next b v) in omega (arith, x, y)
same_t (CLet (CSet v w) t) own d b =
    let x = same_v v own d b in
    let z = same_v w own d (cv_next b v) in
    let y = same_t t own (suc d) (cv_next (cv_next b v) w) in omega (arith, x, y, z)
same_t (CCall f ts vs) own d b =
    let x = same_v f own d b in let y = same_vs vs own d (cv_next b f) in omega (arith, x, y)
same_t (CIf v t u) own d b =
    let x = same_v v own d b in
    let y = same_t t own d (cv_next b v) in let z = same_t u own d (ct_next (cv_next b v) t) in omega (arith, x, y, z)
same_t (CHalt v) own d b = let x = same_v v own d b in omega (arith, x)

all_small : (M : ℕ) (xs ys : List HBlk) → HAllSmall M xs → HAllSmall M ys → HAllSmall M (xs ++ ys)
all_small M [] ys h q = q
all_small M (x ∷ xs) ys h q = (h.0, all_small M xs ys h.1 q)

mutual
  blocks_small_v : (v : CVal) (M b : ℕ) → CSmall_v M v → HAllSmall M (blocks_v b v)
  blocks_small_v (CVar i) M b h = tt
  blocks_small_v (CInt n) M b h = tt
  blocks_small_v (CTuple vs) M b h = blocks_small_vs vs M b h
  blocks_small_v (CCode owes args body) M b h =
      let x = same_t body (Code b) (ccount args) (suc b) in
      (omega (arith, x, h.0), blocks_small_t body M (suc b) h.1)
  blocks_small_v (CApply v ts) M b h = blocks_small_v v M b h
  blocks_small_v (CPack hid v s) M b h = blocks_small_v v M b h

  blocks_small_vs : (vs : CVals) (M b : ℕ) → CSmall_vs M vs → HAllSmall M (blocks_vs b vs)
  blocks_small_vs NoCVals M b h = tt
  blocks_small_vs (MoreCVals v vs) M b h =
      all_small M (blocks_v b v) _ (blocks_small_v v M b h.0) (blocks_small_vs vs M (cv_next b v) h.1)

  blocks_small_t : (t : CTm) (M b : ℕ) → CSmall_t M t → HAllSmall M (blocks_t b t)
  blocks_small_t (CLet (CName v) t) M b h =
      all_small M (blocks_v b v) _ (blocks_small_v v M b h.0) (blocks_small_t t M (cv_next b v) h.1)
  blocks_small_t (CLet (CProj i v) t) M b h =
      all_small M (blocks_v b v) _ (blocks_small_v v M b h.0) (blocks_small_t t M (cv_next b v) h.1)
  blocks_small_t (CLet (CArith op v w) t) M b h =
      all_small M (blocks_v b v ++ blocks_v (cv_next b v) w) _
      (all_small M (blocks_v b v) _ (blocks_small_v v M b h.0.0) (blocks_small_v w M (cv_next b v) h.0.1))
      (blocks_small_t t M (cv_next (cv_next b v) w) h.1)
  blocks_small_t (CLet (CUnpack v) t) M b h =
      all_small M (blocks_v b v) _ (blocks_small_v v M b h.0) (blocks_small_t t M (cv_next b v) h.1)
  blocks_small_t (CLet (CCell v) t) M b h =
      all_small M (blocks_v b v) _ (blocks_small_v v M b h.0) (blocks_small_t t M (cv_next b v) h.1)
  blocks_small_t (CLet (CGet v) t) M b h =
      all_small M (blocks_v b v) _ (blocks_small_v v M b h.0) (blocks_small_t t M (cv_next b v) h.1)
  blocks_small_t (CLet (CSet v w) t) M b h =
      all_small M (blocks_v b v ++ blocks_v (cv_next b v) w) _
      (all_small M (blocks_v b v) _ (blocks_small_v v M b h.0.0) (blocks_small_v w M (cv_next b v) h.0.1))
      (blocks_small_t t M (cv_next (cv_next b v) w) h.1)
  blocks_small_t (CCall f ts vs) M b h =
      all_small M (blocks_v b f) _ (blocks_small_v f M b h.0) (blocks_small_vs vs M (cv_next b f) h.1)
  blocks_small_t (CIf v t u) M b h =
      all_small M (blocks_v b v) _ (blocks_small_v v M b h.0)
      (all_small M (blocks_t (cv_next b v) t) _ (blocks_small_t t M (cv_next b v) h.1)
      (blocks_small_t u M (ct_next (cv_next b v) t) h.2))
  blocks_small_t (CHalt v) M b h = blocks_small_v v M b h

pub hoist_small : (M : ℕ) (t : CTm) → CSmall M t → HSmall M (blocks_of t) (main_of t)
hoist_small M t h = let x = same_t t Nobody 0 0 in (blocks_small_t t M 0 h.1, omega (arith, x, h.0))

-- choices
all_more : (xs ys : List HBlk) → all_hifs (xs ++ ys) ≡ all_hifs xs + all_hifs ys
all_more [] ys = omega arith
all_more (x ∷ xs) ys = let r = all_more xs ys in omega (arith, r)

mutual
  hoisted_v : (v : CVal) (b : ℕ) → all_hifs (blocks_v b v) ≡ cifs_v v
  hoisted_v (CVar i) b = refl
  hoisted_v (CInt n) b = refl
  hoisted_v (CTuple vs) b = hoisted_vs vs b
  hoisted_v (CCode owes args body) b = let r = hoisted_t body (Code b) (ccount args) (suc b) in omega (arith, r)
  hoisted_v (CApply v ts) b = hoisted_v v b
  hoisted_v (CPack h v s) b = hoisted_v v b

  hoisted_vs : (vs : CVals) (b : ℕ) → all_hifs (blocks_vs b vs) ≡ cifs_vs vs
  hoisted_vs NoCVals b = refl
  hoisted_vs (MoreCVals v vs) b =
      let x = hoisted_v v b in
      let y = hoisted_vs vs (cv_next b v) in
      let z = all_more (blocks_v b v) (blocks_vs (cv_next b v) vs) in omega (arith, x, y, z)

  hoisted_t : (t : CTm) (own : Own) (d b : ℕ) → hifs_t (hoist_t own d b t) + all_hifs (blocks_t b t) ≡ cifs_t t
  hoisted_t (CLet (CName v) t) own d b =
      let x = hoisted_v v b in
      let y = hoisted_t t own (suc d) (cv_next b v) in
      let z = all_more (blocks_v b v) (blocks_t (cv_next b v) t) in omega (arith, x, y, z)
  hoisted_t (CLet (CProj i v) t) own d b =
      let x = hoisted_v v b in
      let y = hoisted_t t own (suc d) (cv_next b v) in
      let z = all_more (blocks_v b v) (blocks_t (cv_next b v) t) in omega (arith, x, y, z)
  hoisted_t (CLet (CArith op v w) t) own d b =
      let x = hoisted_v v b in let q = hoisted_v w (cv_next b v) in
      let y = hoisted_t t own (suc d) (cv_next (cv_next b v) w) in
      let p = all_more (blocks_v b v) (blocks_v (cv_next b v) w) in
      let z = all_more (blocks_v b v ++ blocks_v (cv_next b v) w) (blocks_t (cv_next (cv_next b v) w) t) in
      omega (arith, x, q, y, p, z)
  hoisted_t (CLet (CUnpack v) t) own d b =
      let x = hoisted_v v b in
      let y = hoisted_t t own (suc d) (cv_next b v) in
      let z = all_more (blocks_v b v) (blocks_t (cv_next b v) t) in omega (arith, x, y, z)
  hoisted_t (CLet (CCell v) t) own d b =
      let x = hoisted_v v b in
      let y = hoisted_t t own (suc d) (cv_next b v) in
      let z = all_more (blocks_v b v) (blocks_t (cv_next b v) t) in omega (arith, x, y, z)
  hoisted_t (CLet (CGet v) t) own d b =
      let x = hoisted_v v b in
      let y = hoisted_t t own (suc d) (cv_next b v) in
      let z = all_more (blocks_v b v) (blocks_t (cv_next b v) t) in omega (arith, x, y, z)
  hoisted_t (CLet (CSet v w) t) own d b =
      let x = hoisted_v v b in let q = hoisted_v w (cv_next b v) in
      let y = hoisted_t t own (suc d) (cv_next (cv_next b v) w) in
      let p = all_more (blocks_v b v) (blocks_v (cv_next b v) w) in
      let z = all_more (blocks_v b v ++ blocks_v (cv_next b v) w) (blocks_t (cv_next (cv_next b v) w) t) in
      omega (arith, x, q, y, p, z)
  hoisted_t (CCall f ts vs) own d b =
      let x = hoisted_v f b in
      let y = hoisted_vs vs (cv_next b f) in
      let z = all_more (blocks_v b f) (blocks_vs (cv_next b f) vs) in omega (arith, x, y, z)
  hoisted_t (CIf v t u) own d b =
      let x = hoisted_v v b in
      let y = hoisted_t t own d (cv_next b v) in
      let w = hoisted_t u own d (ct_next (cv_next b v) t) in
      let p = all_more (blocks_v b v) (blocks_t (cv_next b v) t ++ blocks_t (ct_next (cv_next b v) t) u) in
      let q = all_more (blocks_t (cv_next b v) t) (blocks_t (ct_next (cv_next b v) t) u) in omega (arith, x, y, w, p, q)
  hoisted_t (CHalt v) own d b = let x = hoisted_v v b in omega (arith, x)

pub hoist_fits : (N R : ℕ) (t : CTm) → CFits N R t → HFits N R (blocks_of t) (main_of t)
hoist_fits N R t h =
    let x = len_t t 0 in let y = hoisted_t t Nobody 0 0 in
    (hoist_each (CWithin N R N) t h.0, hoist_small N t h.1, omega (arith, h.2, x, y))
