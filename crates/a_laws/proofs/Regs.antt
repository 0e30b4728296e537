-- Allocation makes at most three variables for each node of a block.
use Rattle.std.proofs.Common.{◌≡◌, ◌≤◌, Bool, true, false, ℕ, suc, ◌+◌, ◌*◌, List, [], ◌∷◌, length, refl, ap, subst}
use Rattle.std.proofs.Common.{arith}
use Rattle.a_laws.specs.Allocate.{Known, alloc_all, alloc_main, alloc_prog, alloc_t, arg_depth, arg_levels, atypes}
use Rattle.a_laws.specs.Allocate.{are_const, d_next, d_types, dcl, fill, final, known_of, n_all, n_block, n_d, n_t, n_v}
use Rattle.a_laws.specs.Allocate.{pre_d, pre_v, pre_vs, v_next, v_type, v_types, val, vals, vs_next}
use Rattle.a_terms.specs.Bound.{AAllRegs, ARegs, ASmall}
use Rattle.a_terms.specs.Meaning.{pick}
use Rattle.a_terms.specs.Tree.{ATm, ATy, Init, Let, Malloc, MoreATys, NoATys, arity}
use Rattle.a_terms.specs.Typing.{types_of}
use Rattle.c_terms.specs.C.{CTys, MoreCTys, NoCTys, ccount}
use Rattle.h_terms.specs.H.{HApply, HArith, HBlks, HCall, HCell, HDecl, HGet, HHalt, HIf, HInt, HLabel, HLet, HName}
use Rattle.h_terms.specs.H.{HPack, HProj, HSet, HTm, HTuple, HUnpack, HVal, HVals, HVar, MoreHVals, NoHVals}
use Rattle.h_terms.specs.Size.{HAllSmall, HSmall, hsize_d, hsize_t, hsize_v, hsize_vs}

abbrev many : HVals → ℕ
many NoHVals = 0
many (MoreHVals v vs) = 1 + many vs

final_is : (vs : HVals) (l : ℕ) → final l vs ≡ l + many vs
final_is NoHVals l = omega arith
final_is (MoreHVals v vs) l = let r = final_is vs (suc l) in omega (arith, r)

pick_least : (c : Bool) (d x : ℕ) → d ≤ x → d ≤ pick c d x
pick_least true d x h = omega arith
pick_least false d x h = h

pick_most : (c : Bool) (d x m : ℕ) → d + 1 ≤ m → x + 1 ≤ m → pick c d x + 1 ≤ m
pick_most true d x m h k = h
pick_most false d x m h k = k

module _ (ls : List Known) where
  mutual
    next_le : (v : HVal) (d : ℕ) → d ≤ v_next ls d v
    next_le (HVar i) d = omega arith
    next_le (HInt n) d = omega arith
    next_le (HLabel l) d = omega arith
    next_le (HTuple vs) d =
        let x = nexts_le vs d in
        let y = final_is vs (vs_next ls d vs) in
        pick_least (are_const ls vs) d (suc (final (vs_next ls d vs) vs)) (omega (arith, x, y))
    next_le (HApply v ts) d = next_le v d
    next_le (HPack h v s) d = next_le v d

    nexts_le : (vs : HVals) (d : ℕ) → d ≤ vs_next ls d vs
    nexts_le NoHVals d = omega arith
    nexts_le (MoreHVals v vs) d = let x = next_le v d in let y = nexts_le vs (v_next ls d v) in omega (arith, x, y)

  mutual
    next_size : (v : HVal) (d : ℕ) → v_next ls d v + 1 ≤ d + 2 * hsize_v v
    next_size (HVar i) d = omega arith
    next_size (HInt n) d = omega arith
    next_size (HLabel l) d = omega arith
    next_size (HTuple vs) d =
        let x = nexts_size vs d in
        let y = final_is vs (vs_next ls d vs) in
        pick_most (are_const ls vs) d (suc (final (vs_next ls d vs) vs)) (d + 2 * hsize_v (HTuple vs)) (omega arith)
        (omega (arith, x, y))
    next_size (HApply v ts) d = let r = next_size v d in omega (arith, r)
    next_size (HPack h v s) d = let r = next_size v d in omega (arith, r)

    nexts_size : (vs : HVals) (d : ℕ) → vs_next ls d vs + many vs ≤ d + 2 * hsize_vs vs
    nexts_size NoHVals d = omega arith
    nexts_size (MoreHVals v vs) d =
        let x = next_size v d in let y = nexts_size vs (v_next ls d v) in omega (arith, x, y)

mutual
  one_v : (v : HVal) → 1 ≤ hsize_v v
  one_v (HVar i) = omega arith
  one_v (HInt n) = omega arith
  one_v (HLabel l) = omega arith
  one_v (HTuple vs) = omega arith
  one_v (HApply v ts) = omega arith
  one_v (HPack h v s) = omega arith

  many_le : (vs : HVals) → many vs ≤ hsize_vs vs
  many_le NoHVals = omega arith
  many_le (MoreHVals v vs) = let x = one_v v in let y = many_le vs in omega (arith, x, y)

length_vals : (ls : List Known) (vs : HVals) (b e d : ℕ) → length (vals ls b e d vs) ≡ many vs
length_vals ls NoHVals b e d = refl
length_vals ls (MoreHVals v vs) b e d = let r = length_vals ls vs (n_v ls b v) (v_next ls e v) d in omega (arith, r)

module _ (M : ℕ) where
  fill_regs : (vs : HVals) (ls : List Known) (b e l i : ℕ) (rest : ATm) → final l vs + 2 ≤ M →
      ARegs M (suc (final l vs)) rest → ARegs M (suc l) (fill ls b e l i vs rest)
  fill_regs NoHVals ls b e l i rest h r = r
  fill_regs (MoreHVals v vs) ls b e l i rest h r =
      let x = final_is vs (suc l) in
      (omega (arith, x, h), fill_regs vs ls (n_v ls b v) (v_next ls e v) (suc l) (suc i) rest h r)

  regs_pick : (c : Bool) (d x : ℕ) (rest made : ATm) → pick c d x + 1 ≤ M → ARegs M (pick c d x) rest →
      (x + 1 ≤ M → ARegs M x rest → ARegs M d made) → ARegs M d (pick c rest made)
  regs_pick true d x rest made h r f = r
  regs_pick false d x rest made h r f = f h r

  module _ (ks : HBlks) (g : List ATy) (ls : List Known) where
    mutual
      regs_v : (v : HVal) (b d : ℕ) (rest : ATm) → v_next ls d v + 1 ≤ M → ARegs M (v_next ls d v) rest →
          ARegs M d (pre_v ks g ls b d v rest)
      regs_v (HVar i) b d rest h r = r
      regs_v (HInt n) b d rest h r = r
      regs_v (HLabel l) b d rest h r = r
      regs_v (HTuple vs) b d rest h r =
          let l = vs_next ls d vs in
          let x = final_is vs l in
          let made = Let (Malloc (v_types ks g vs)) (fill ls b d l 1 vs rest) in
          regs_pick (are_const ls vs) d (suc (final l vs)) rest (pre_vs ks g ls b d vs made) h r
          (λ h r. regs_vs vs b d made (omega (arith, x, h))
          (omega (arith, x, h), fill_regs vs ls b d l 1 rest (omega (arith, h)) r))
      regs_v (HApply v ts) b d rest h r = regs_v v b d rest h r
      regs_v (HPack hid v s) b d rest h r = regs_v v b d rest h r

      regs_vs : (vs : HVals) (b d : ℕ) (rest : ATm) → vs_next ls d vs + 1 ≤ M → ARegs M (vs_next ls d vs) rest →
          ARegs M d (pre_vs ks g ls b d vs rest)
      regs_vs NoHVals b d rest h r = r
      regs_vs (MoreHVals v vs) b d rest h r =
          let x = nexts_le ls vs (v_next ls d v) in
          regs_v v b d (pre_vs ks g ls (n_v ls b v) (v_next ls d v) vs rest) (omega (arith, x, h))
          (regs_vs vs (n_v ls b v) (v_next ls d v) rest h r)

  regs_d : (ks : HBlks) (g : List ATy) (ls : List Known) (e : HDecl) (b d : ℕ) (rest : ATm) → d_next ls d e + 1 ≤ M →
      ARegs M (d_next ls d e) rest → ARegs M d (pre_d ks g ls b d e rest)
  regs_d ks g ls (HName v) b d rest h r = regs_v ks g ls v b d rest h r
  regs_d ks g ls (HProj i v) b d rest h r = regs_v ks g ls v b d rest h r
  regs_d ks g ls (HArith op v w) b d rest h r =
      let x = next_le ls w (v_next ls d v) in
      regs_v ks g ls v b d (pre_v ks g ls (n_v ls b v) (v_next ls d v) w rest) (omega (arith, x, h))
      (regs_v ks g ls w (n_v ls b v) (v_next ls d v) rest h r)
  regs_d ks g ls (HUnpack v) b d rest h r = regs_v ks g ls v b d rest h r
  regs_d ks g ls (HCell v) b d rest h r =
      regs_v ks g ls v b d (Let (Malloc (MoreATys (v_type ks g v) NoATys)) rest) (omega (arith, h))
      (omega (arith, h), r)
  regs_d ks g ls (HGet v) b d rest h r = regs_v ks g ls v b d rest h r
  regs_d ks g ls (HSet v w) b d rest h r =
      let d1 = v_next ls d v in
      let d2 = v_next ls d1 w in
      let x = next_le ls w d1 in
      let set = Let (Init (val ls b d d2 v) 1 (val ls (n_v ls b v) d1 d2 w)) rest in
      regs_v ks g ls v b d (pre_v ks g ls (n_v ls b v) d1 w set) (omega (arith, x, h))
      (regs_v ks g ls w (n_v ls b v) d1 set (omega (arith, h)) (omega (arith, h), r))

  decl_size : (ls : List Known) (e : HDecl) (d : ℕ) → d_next ls d e + 2 ≤ d + 2 * hsize_d e
  decl_size ls (HName v) d = let x = next_size ls v d in omega (arith, x)
  decl_size ls (HProj i v) d = let x = next_size ls v d in omega (arith, x)
  decl_size ls (HArith op v w) d =
      let x = next_size ls v d in let y = next_size ls w (v_next ls d v) in omega (arith, x, y)
  decl_size ls (HUnpack v) d = let x = next_size ls v d in omega (arith, x)
  decl_size ls (HCell v) d = let x = next_size ls v d in omega (arith, x)
  decl_size ls (HGet v) d = let x = next_size ls v d in omega (arith, x)
  decl_size ls (HSet v w) d = let x = next_size ls v d in let y = next_size ls w (v_next ls d v) in omega (arith, x, y)

  regs_t : (t : HTm) (ks : HBlks) (g : List ATy) (ls : List Known) (b d : ℕ) → d + 3 * hsize_t t ≤ M →
      ARegs M d (alloc_t ks g ls b d t)
  regs_t (HLet e t) ks g ls b d h =
      let x = decl_size ls e d in
      let kn = known_of ls b d e in
      let b1 = n_d ls b e in
      let d1 = suc (d_next ls d e) in
      regs_d ks g ls e b d (Let (dcl ls b d e) (alloc_t ks (d_types ks g e) (kn ∷ ls) b1 d1 t)) (omega (arith, x, h))
      (omega (arith, x, h), regs_t t ks (d_types ks g e) (kn ∷ ls) b1 d1 (omega (arith, x, h)))
  regs_t (HCall f ts vs) ks g ls b d h =
      let b1 = n_v ls b f in
      let d1 = v_next ls d f in
      let x = next_size ls f d in
      let y = nexts_size ls vs d1 in
      let z = many_le vs in
      let q = nexts_le ls vs d1 in
      let n = length_vals ls vs b1 d1 (vs_next ls d1 vs) in
      regs_v ks g ls f b d _ (omega (arith, x, h))
      (regs_vs ks g ls vs b1 d1 _ (omega (arith, x, y, z, h)) (omega (arith, x, y, z, n, h)))
  regs_t (HIf v t u) ks g ls b d h =
      let d1 = v_next ls d v in
      let b1 = n_v ls b v in
      let x = next_size ls v d in
      regs_v ks g ls v b d _ (omega (arith, x, h)) (
        omega (arith, x, h),
        regs_t t ks g ls b1 d1 (omega (arith, x, h)),
        regs_t u ks g ls (n_t ls b1 d1 t) d1 (omega (arith, x, h)),
      )
  regs_t (HHalt v) ks g ls b d h =
      let x = next_size ls v d in regs_v ks g ls v b d _ (omega (arith, x, h)) (omega (arith, x, h))

arity_is : (ts : CTys) → arity (atypes ts) ≡ ccount ts
arity_is NoCTys = refl
arity_is (MoreCTys t ts) = ap suc (arity_is ts)

depth_is : (ts : CTys) (d : ℕ) → arg_depth d ts ≡ d + ccount ts
depth_is NoCTys d = omega arith
depth_is (MoreCTys t ts) d = let r = depth_is ts (suc d) in omega (arith, r)

blocks_regs : (N M : ℕ) → 3 * N ≤ M → (ks xs : HBlks) (b : ℕ) → HAllSmall N xs → AAllRegs M (alloc_all ks b xs)
blocks_regs N M le ks [] b h = tt
blocks_regs N M le ks (x ∷ xs) b h =
    let a = arity_is x.args in
    let d = depth_is x.args 0 in
    let e : arg_depth 0 x.args ≡ arity (atypes x.args) = omega (arith, a, d) in
    let r = regs_t M x.body ks (types_of (atypes x.args) []) (arg_levels 0 [] x.args) b (arg_depth 0 x.args)
    (omega (arith, d, h.0)) in (
      subst (λ n.
          ARegs M n (alloc_t ks (types_of (atypes x.args) []) (arg_levels 0 [] x.args) b (arg_depth 0 x.args) x.body))
          e r,
      blocks_regs N M le ks xs (n_block b x) h.1,
    )

pub alloc_small : (N M : ℕ) → 3 * N ≤ M → (ks : HBlks) (t : HTm) → HSmall N ks t →
    ASmall M (alloc_prog ks t) (alloc_main ks t)
alloc_small N M le ks t h = (blocks_regs N M le ks ks 0 h.0, regs_t M t ks [] [] (n_all 0 ks) 0 (omega (arith, h.1)))
