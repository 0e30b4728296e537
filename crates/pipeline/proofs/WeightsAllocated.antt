-- Allocation keeps the weight, and the number of blocks.
use Rattle.std.proofs.Common.{◌≡◌, ℕ, ◌+◌, Bool, true, false, suc, List, [], ◌∷◌, refl, ◌∙◌, arith}
use Rattle.a_laws.specs.Allocate.{Known, alloc_all, alloc_t, arg_depth, arg_levels, atypes, are_const, d_next, d_types}
use Rattle.a_laws.specs.Allocate.{dcl, fill, known_of, n_block, n_d, n_t, n_v, pre_d, pre_v, pre_vs, v_next, v_type}
use Rattle.a_laws.specs.Allocate.{v_types, val, vs_next}
use Rattle.a_terms.specs.Bound.{all_thirds, thirds}
use Rattle.a_terms.specs.Meaning.{pick}
use Rattle.a_terms.specs.Tree.{ABlk, ADecl, ATm, ATy, Arith, Call, Halt, If0, Init, Let, Malloc, MoreATys, NoATys, Proj}
use Rattle.a_terms.specs.Tree.{Unpack, Value}
use Rattle.a_terms.specs.Typing.{types_of}
use Rattle.h_terms.specs.H.{HApply, HArith, HBlks, HCall, HCell, HDecl, HGet, HHalt, HIf, HInt, HLabel, HLet, HName}
use Rattle.h_terms.specs.H.{HPack, HProj, HSet, HTm, HTuple, HUnpack, HVal, HVals, HVar, MoreHVals, NoHVals}
use Rattle.pipeline.specs.Weights.{Weights}
use Rattle.pipeline.specs.Work.{only_choices}
use Rattle.pipeline.proofs.WeightsHoisted.{h_d, h_t, h_all}

abbrev pub a_d : Weights → ADecl → ℕ
a_d w (Value v) = 0
a_d w (Proj i v) = 0
a_d w (Arith op v u) = w.operation op
a_d w (Unpack v) = w.opening
a_d w (Malloc ts) = 0
a_d w (Init v i u) = 0

abbrev pub a_t : Weights → ATm → ℕ
a_t w (Let x e) = a_d w x + a_t w e
a_t w (Call v ts vs) = w.jump
a_t w (If0 v a b) = w.choice + (a_t w a + a_t w b)
a_t w (Halt v) = w.halting

abbrev pub a_all : Weights → List ABlk → ℕ
a_all w [] = 0
a_all w (b ∷ bs) = a_t w b.body + a_all w bs

module _ (w : Weights) where
  of_fill : (vs : HVals) (ls : List Known) (b e l i : ℕ) (rest : ATm) →
      a_t w (fill ls b e l i vs rest) ≡ a_t w rest
  of_fill NoHVals ls b e l i rest = refl
  of_fill (MoreHVals v vs) ls b e l i rest =
      let r = of_fill vs ls (n_v ls b v) (v_next ls e v) (suc l) (suc i) rest in omega (arith, r)

  of_pick : (k : Bool) (rest made : ATm) → a_t w made ≡ a_t w rest → a_t w (pick k rest made) ≡ a_t w rest
  of_pick true rest made e = refl
  of_pick false rest made e = e

  module _ (ks : HBlks) (g : List ATy) (ls : List Known) where
    mutual
      of_v : (v : HVal) (b d : ℕ) (rest : ATm) → a_t w (pre_v ks g ls b d v rest) ≡ a_t w rest
      of_v (HVar i) b d rest = refl
      of_v (HInt n) b d rest = refl
      of_v (HLabel l) b d rest = refl
      of_v (HTuple vs) b d rest =
          let filled = fill ls b d (vs_next ls d vs) 1 vs rest in
          let made = Let (Malloc (v_types ks g vs)) filled in
          let x = of_vs vs b d made in
          let y = of_fill vs ls b d (vs_next ls d vs) 1 rest in
          of_pick (are_const ls vs) rest (pre_vs ks g ls b d vs made) (omega (arith, x, y))
      of_v (HApply v ts) b d rest = of_v v b d rest
      of_v (HPack h v s) b d rest = of_v v b d rest

      of_vs : (vs : HVals) (b d : ℕ) (rest : ATm) → a_t w (pre_vs ks g ls b d vs rest) ≡ a_t w rest
      of_vs NoHVals b d rest = refl
      of_vs (MoreHVals v vs) b d rest =
          of_v v b d (pre_vs ks g ls (n_v ls b v) (v_next ls d v) vs rest)
          ∙ of_vs vs (n_v ls b v) (v_next ls d v) rest

    of_pre : (e : HDecl) (b d : ℕ) (rest : ATm) → a_t w (pre_d ks g ls b d e rest) ≡ a_t w rest
    of_pre (HName v) b d rest = of_v v b d rest
    of_pre (HProj i v) b d rest = of_v v b d rest
    of_pre (HArith op v u) b d rest =
        of_v v b d (pre_v ks g ls (n_v ls b v) (v_next ls d v) u rest) ∙ of_v u (n_v ls b v) (v_next ls d v) rest
    of_pre (HUnpack v) b d rest = of_v v b d rest
    of_pre (HCell v) b d rest =
        let r = of_v v b d (Let (Malloc (MoreATys (v_type ks g v) NoATys)) rest) in omega (arith, r)
    of_pre (HGet v) b d rest = of_v v b d rest
    of_pre (HSet v u) b d rest =
        let d1 = v_next ls d v in
        let d2 = v_next ls d1 u in
        let set = Let (Init (val ls b d d2 v) 1 (val ls (n_v ls b v) d1 d2 u)) rest in
        let x = of_v v b d (pre_v ks g ls (n_v ls b v) d1 u set) in
        let y = of_v u (n_v ls b v) d1 set in
        omega (arith, x, y)

  of_decl : (e : HDecl) (ls : List Known) (b d : ℕ) → a_d w (dcl ls b d e) ≡ h_d w e
  of_decl (HName v) ls b d = refl
  of_decl (HProj i v) ls b d = refl
  of_decl (HArith op v u) ls b d = refl
  of_decl (HUnpack v) ls b d = refl
  of_decl (HCell v) ls b d = refl
  of_decl (HGet v) ls b d = refl
  of_decl (HSet v u) ls b d = refl

  pub allocated_term : (t : HTm) (ks : HBlks) (g : List ATy) (ls : List Known) (b d : ℕ) →
      a_t w (alloc_t ks g ls b d t) ≡ h_t w t
  allocated_term (HLet e t) ks g ls b d =
      let known = known_of ls b d e ∷ ls in
      let next = suc (d_next ls d e) in
      let rest = alloc_t ks (d_types ks g e) known (n_d ls b e) next t in
      let x = of_pre ks g ls e b d (Let (dcl ls b d e) rest) in
      let y = of_decl e ls b d in
      let z = allocated_term t ks (d_types ks g e) known (n_d ls b e) next in
      omega (arith, x, y, z)
  allocated_term (HCall f ts vs) ks g ls b d =
      of_v ks g ls f b d _ ∙ of_vs ks g ls vs (n_v ls b f) (v_next ls d f) _
  allocated_term (HIf v t u) ks g ls b d =
      let d1 = v_next ls d v in
      let b1 = n_v ls b v in
      let b2 = n_t ls b1 d1 t in
      let x = of_v ks g ls v b d (If0 (val ls b d d1 v) (alloc_t ks g ls b1 d1 t) (alloc_t ks g ls b2 d1 u)) in
      let y = allocated_term t ks g ls b1 d1 in
      let z = allocated_term u ks g ls b2 d1 in
      omega (arith, x, y, z)
  allocated_term (HHalt v) ks g ls b d = of_v ks g ls v b d _

  pub allocated_blocks : (ks xs : HBlks) (b : ℕ) → a_all w (alloc_all ks b xs) ≡ h_all w xs
  allocated_blocks ks [] b = refl
  allocated_blocks ks (x ∷ xs) b =
      let levels = arg_levels 0 [] x.args in
      let a = allocated_term x.body ks (types_of (atypes x.args) []) levels b (arg_depth 0 x.args) in
      let r = allocated_blocks ks xs (n_block b x) in
      omega (arith, a, r)

-- choices alone are counted where nothing else weighs anything
pub only_thirds : (t : ATm) → a_t only_choices t ≡ thirds t
only_thirds (Let (Value v) e) = omega (arith, only_thirds e)
only_thirds (Let (Proj i v) e) = omega (arith, only_thirds e)
only_thirds (Let (Arith op v u) e) = omega (arith, only_thirds e)
only_thirds (Let (Unpack v) e) = omega (arith, only_thirds e)
only_thirds (Let (Malloc ts) e) = omega (arith, only_thirds e)
only_thirds (Let (Init v i u) e) = omega (arith, only_thirds e)
only_thirds (Call v ts vs) = refl
only_thirds (If0 v a b) = omega (arith, only_thirds a, only_thirds b)
only_thirds (Halt v) = refl

pub only_all_thirds : (bs : List ABlk) → a_all only_choices bs ≡ all_thirds bs
only_all_thirds [] = refl
only_all_thirds (b ∷ bs) = omega (arith, only_thirds b.body, only_all_thirds bs)
