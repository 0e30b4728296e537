-- Allocation keeps the number of choices.
use Rattle.std.proofs.Common.{◌≡◌, ℕ, Bool, true, false, suc, List, [], ◌∷◌, length, refl, ap, ◌∙◌, arith}
use Rattle.a_laws.specs.Allocate.{Known, alloc_all, alloc_t, arg_depth, arg_levels, atypes, are_const, d_next, d_types}
use Rattle.a_laws.specs.Allocate.{dcl, fill, known_of, n_block, n_d, n_t, n_v, pre_d, pre_v, pre_vs, v_next, v_type}
use Rattle.a_laws.specs.Allocate.{v_types, val, vs_next}
use Rattle.a_terms.specs.Bound.{all_thirds, thirds}
use Rattle.a_terms.specs.Meaning.{pick}
use Rattle.a_terms.specs.Tree.{ATm, ATy, If0, Init, Let, Malloc, MoreATys, NoATys}
use Rattle.a_terms.specs.Typing.{types_of}
use Rattle.h_terms.specs.H.{HApply, HArith, HBlks, HCall, HCell, HDecl, HGet, HHalt, HIf, HInt, HLabel, HLet, HName}
use Rattle.h_terms.specs.H.{HPack, HProj, HSet, HTm, HTuple, HUnpack, HVal, HVals, HVar, MoreHVals, NoHVals}
use Rattle.h_terms.specs.Size.{all_hifs, hifs_t}

fill_thirds : (vs : HVals) (ls : List Known) (b e l i : ℕ) (rest : ATm) → thirds (fill ls b e l i vs rest) ≡ thirds rest
fill_thirds NoHVals ls b e l i rest = refl
fill_thirds (MoreHVals v vs) ls b e l i rest = fill_thirds vs ls (n_v ls b v) (v_next ls e v) (suc l) (suc i) rest

pick_thirds : (c : Bool) (rest made : ATm) → thirds made ≡ thirds rest → thirds (pick c rest made) ≡ thirds rest
pick_thirds true rest made e = refl
pick_thirds false rest made e = e

module _ (ks : HBlks) (g : List ATy) (ls : List Known) where
  mutual
    thirds_v : (v : HVal) (b d : ℕ) (rest : ATm) → thirds (pre_v ks g ls b d v rest) ≡ thirds rest
    thirds_v (HVar i) b d rest = refl
    thirds_v (HInt n) b d rest = refl
    thirds_v (HLabel l) b d rest = refl
    thirds_v (HTuple vs) b d rest =
        let made = Let (Malloc (v_types ks g vs)) (fill ls b d (vs_next ls d vs) 1 vs rest) in
        pick_thirds (are_const ls vs) rest (pre_vs ks g ls b d vs made)
        (thirds_vs vs b d made ∙ fill_thirds vs ls b d (vs_next ls d vs) 1 rest)
    thirds_v (HApply v ts) b d rest = thirds_v v b d rest
    thirds_v (HPack h v s) b d rest = thirds_v v b d rest

    thirds_vs : (vs : HVals) (b d : ℕ) (rest : ATm) → thirds (pre_vs ks g ls b d vs rest) ≡ thirds rest
    thirds_vs NoHVals b d rest = refl
    thirds_vs (MoreHVals v vs) b d rest =
        thirds_v v b d (pre_vs ks g ls (n_v ls b v) (v_next ls d v) vs rest)
        ∙ thirds_vs vs (n_v ls b v) (v_next ls d v) rest

  thirds_d : (e : HDecl) (b d : ℕ) (rest : ATm) → thirds (pre_d ks g ls b d e rest) ≡ thirds rest
  thirds_d (HName v) b d rest = thirds_v v b d rest
  thirds_d (HProj i v) b d rest = thirds_v v b d rest
  thirds_d (HArith op v w) b d rest =
      thirds_v v b d (pre_v ks g ls (n_v ls b v) (v_next ls d v) w rest) ∙ thirds_v w (n_v ls b v) (v_next ls d v) rest
  thirds_d (HUnpack v) b d rest = thirds_v v b d rest
  thirds_d (HCell v) b d rest = thirds_v v b d (Let (Malloc (MoreATys (v_type ks g v) NoATys)) rest)
  thirds_d (HGet v) b d rest = thirds_v v b d rest
  thirds_d (HSet v w) b d rest =
      let d1 = v_next ls d v in
      let d2 = v_next ls d1 w in
      let set = Let (Init (val ls b d d2 v) 1 (val ls (n_v ls b v) d1 d2 w)) rest in
      thirds_v v b d (pre_v ks g ls (n_v ls b v) d1 w set) ∙ thirds_v w (n_v ls b v) d1 set

pub thirds_t : (t : HTm) (ks : HBlks) (g : List ATy) (ls : List Known) (b d : ℕ) →
    thirds (alloc_t ks g ls b d t) ≡ hifs_t t
thirds_t (HLet e t) ks g ls b d =
    let kn = known_of ls b d e in
    thirds_d ks g ls e b d
    (Let (dcl ls b d e) (alloc_t ks (d_types ks g e) (kn ∷ ls) (n_d ls b e) (suc (d_next ls d e)) t))
    ∙ thirds_t t ks (d_types ks g e) (kn ∷ ls) (n_d ls b e) (suc (d_next ls d e))
thirds_t (HCall f ts vs) ks g ls b d = thirds_v ks g ls f b d _ ∙ thirds_vs ks g ls vs (n_v ls b f) (v_next ls d f) _
thirds_t (HIf v t u) ks g ls b d =
    let d1 = v_next ls d v in
    let b1 = n_v ls b v in
    let b2 = n_t ls b1 d1 t in
    let x = thirds_v ks g ls v b d (If0 (val ls b d d1 v) (alloc_t ks g ls b1 d1 t) (alloc_t ks g ls b2 d1 u)) in
    let y = thirds_t t ks g ls b1 d1 in
    let z = thirds_t u ks g ls b2 d1 in
    omega (arith, x, y, z)
thirds_t (HHalt v) ks g ls b d = thirds_v ks g ls v b d _

pub thirds_all : (ks xs : HBlks) (b : ℕ) → all_thirds (alloc_all ks b xs) ≡ all_hifs xs
thirds_all ks [] b = refl
thirds_all ks (x ∷ xs) b =
    let a = thirds_t x.body ks (types_of (atypes x.args) []) (arg_levels 0 [] x.args) b (arg_depth 0 x.args) in
    let r = thirds_all ks xs (n_block b x) in
    omega (arith, a, r)

pub length_all : (ks xs : HBlks) (b : ℕ) → length (alloc_all ks b xs) ≡ length xs
length_all ks [] b = refl
length_all ks (x ∷ xs) b = ap suc (length_all ks xs (n_block b x))
