-- Hoisting: each code becomes a block, and its label stands where the code stood.
use Rattle.std.specs.Prelude.{pos, ℕ, zero, suc, [], ◌∷◌, ◌++◌}
use Rattle.c_terms.specs.C.{CApply, CArith, CCall, CCell, CCode, CDecl, CGet, CHalt, CIf, CInt, CLet, CName, CPack}
use Rattle.c_terms.specs.C.{CProj, CSet, CTm, CTuple, CTys, CUnpack, CVal, CVals, CVar, MoreCVals, NoCVals, ccount}
use Rattle.c_terms.specs.C.{cd_next, ct_next, cv_next}
use Rattle.h_terms.specs.H.{HApply, HArith, HBlk, HBlks, HCall, HCell, HDecl, HGet, HHalt, HIf, HInt, HLabel, HLet}
use Rattle.h_terms.specs.H.{HName, HPack, HProj, HSet, HTm, HTuple, HUnpack, HVal, HVals, HVar, MoreHVals, NoHVals}

-- hoisting: under d variables, own stands for the name of the code around; codes are numbered from b on
pub data Own : Type 0 where
  Nobody : Own
  Code : (label : ℕ) → Own

-- what a variable becomes: a variable, the label of the code around, or nothing
pub data Spot : Type 0 where
  Near : ℕ → Spot
  Self : ℕ → Spot
  Lost : Spot

abbrev pub spot_value : Spot → HVal
spot_value (Near i) = HVar i
spot_value (Self l) = HLabel l
spot_value Lost = HInt (pos 0)

abbrev pub deeper : Spot → Spot
deeper (Near i) = Near (suc i)
deeper (Self l) = Self l
deeper Lost = Lost

abbrev pub own_spot : Own → ℕ → Spot
own_spot Nobody i = Lost
own_spot (Code l) zero = Self l
own_spot (Code l) (suc i) = Lost

abbrev pub spot : Own → ℕ → ℕ → Spot
spot own zero i = own_spot own i
spot own (suc d) zero = Near 0
spot own (suc d) (suc i) = deeper (spot own d i)

abbrev mutual
  pub hoist_v : Own → ℕ → ℕ → CVal → HVal
  hoist_v own d b (CVar i) = spot_value (spot own d i)
  hoist_v own d b (CInt n) = HInt n
  hoist_v own d b (CTuple vs) = HTuple (hoist_vs own d b vs)
  hoist_v own d b (CCode owes args body) = HLabel b
  hoist_v own d b (CApply v ts) = HApply (hoist_v own d b v) ts
  hoist_v own d b (CPack h v s) = HPack h (hoist_v own d b v) s

  pub hoist_vs : Own → ℕ → ℕ → CVals → HVals
  hoist_vs own d b NoCVals = NoHVals
  hoist_vs own d b (MoreCVals v vs) = MoreHVals (hoist_v own d b v) (hoist_vs own d (cv_next b v) vs)

abbrev pub hoist_d : Own → ℕ → ℕ → CDecl → HDecl
hoist_d own d b (CName v) = HName (hoist_v own d b v)
hoist_d own d b (CProj i v) = HProj i (hoist_v own d b v)
hoist_d own d b (CArith op v w) = HArith op (hoist_v own d b v) (hoist_v own d (cv_next b v) w)
hoist_d own d b (CUnpack v) = HUnpack (hoist_v own d b v)
hoist_d own d b (CCell v) = HCell (hoist_v own d b v)
hoist_d own d b (CGet v) = HGet (hoist_v own d b v)
hoist_d own d b (CSet v w) = HSet (hoist_v own d b v) (hoist_v own d (cv_next b v) w)

abbrev pub hoist_t : Own → ℕ → ℕ → CTm → HTm
hoist_t own d b (CLet e t) = HLet (hoist_d own d b e) (hoist_t own (suc d) (cd_next b e) t)
hoist_t own d b (CCall f ts vs) = HCall (hoist_v own d b f) ts (hoist_vs own d (cv_next b f) vs)
hoist_t own d b (CIf v t u) =
    HIf (hoist_v own d b v) (hoist_t own d (cv_next b v) t) (hoist_t own d (ct_next (cv_next b v) t) u)
hoist_t own d b (CHalt v) = HHalt (hoist_v own d b v)

-- the block of the code with number b
abbrev pub block_of : ℕ → ℕ → CTys → CTm → HBlk
block_of b owes args body = record { owes = owes; args = args; body = hoist_t (Code b) (ccount args) (suc b) body }

-- the blocks, by number: each before those inside it
abbrev mutual
  pub blocks_v : ℕ → CVal → HBlks
  blocks_v b (CVar i) = []
  blocks_v b (CInt n) = []
  blocks_v b (CTuple vs) = blocks_vs b vs
  blocks_v b (CCode owes args body) = block_of b owes args body ∷ blocks_t (suc b) body
  blocks_v b (CApply v ts) = blocks_v b v
  blocks_v b (CPack h v s) = blocks_v b v

  pub blocks_vs : ℕ → CVals → HBlks
  blocks_vs b NoCVals = []
  blocks_vs b (MoreCVals v vs) = blocks_v b v ++ blocks_vs (cv_next b v) vs

  pub blocks_d : ℕ → CDecl → HBlks
  blocks_d b (CName v) = blocks_v b v
  blocks_d b (CProj i v) = blocks_v b v
  blocks_d b (CArith op v w) = blocks_v b v ++ blocks_v (cv_next b v) w
  blocks_d b (CUnpack v) = blocks_v b v
  blocks_d b (CCell v) = blocks_v b v
  blocks_d b (CGet v) = blocks_v b v
  blocks_d b (CSet v w) = blocks_v b v ++ blocks_v (cv_next b v) w

  pub blocks_t : ℕ → CTm → HBlks
  blocks_t b (CLet d t) = blocks_d b d ++ blocks_t (cd_next b d) t
  blocks_t b (CCall f ts vs) = blocks_v b f ++ blocks_vs (cv_next b f) vs
  blocks_t b (CIf v t u) = blocks_v b v ++ (blocks_t (cv_next b v) t ++ blocks_t (ct_next (cv_next b v) t) u)
  blocks_t b (CHalt v) = blocks_v b v

-- a whole program
abbrev pub main_of : CTm → HTm
main_of t = hoist_t Nobody 0 0 t

abbrev pub blocks_of : CTm → HBlks
blocks_of t = blocks_t 0 t
