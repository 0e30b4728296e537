-- Closed terms as lists of nodes: operands stand before what takes them, a code's body stands between the code's node
-- and an end, variables stand by level. A call's node stands between the code and the arguments, and no node ends the
-- arguments: the call ends where the term does.
use Rattle.std.specs.Prelude.{ℤ, ℕ, suc, List, ◌∷◌}
use Rattle.idx_core.specs.declared.arith.Op.{Op}
use Rattle.calc_core.specs.Ends.{lift}
use Rattle.calc_core.specs.Levels.{level_of}
use Rattle.c_terms.specs.C.{CTy, CTys, CVal, CVar, CInt, CTuple, CCode, CApply, CPack, CVals, NoCVals, MoreCVals, CDecl}
use Rattle.c_terms.specs.C.{CName, CProj, CArith, CUnpack, CCell, CGet, CSet, CTm, CLet, CCall, CIf, CHalt, ccount}

-- what binds has the level that it binds
pub data CNd : Type 0 where
  MVar : (level : ℕ) → CNd
  MInt : (n : ℤ) → CNd
  MTuple : (count : ℕ) → CNd
  MCode : (owes : ℕ) (args : CTys) → CNd
  MEnd : CNd
  MApply : (types : CTys) → CNd
  MPack : (hidden shape : CTy) → CNd
  MName : (level : ℕ) → CNd
  MProj : (level field : ℕ) → CNd
  MArith : (level : ℕ) (op : Op) → CNd
  MUnpack : (level : ℕ) → CNd
  MCell : (level : ℕ) → CNd
  MGet : (level : ℕ) → CNd
  MSet : (level : ℕ) → CNd
  MCall : (types : CTys) (count : ℕ) → CNd
  MIf : CNd
  MElse : CNd
  MHalt : CNd

abbrev pub cwidth : CVals → ℕ
cwidth NoCVals = 0
cwidth (MoreCVals v vs) = suc (cwidth vs)

-- the nodes of a tree under e names, before others
abbrev mutual
  pub clin_v : ℕ → CVal → List CNd → List CNd
  clin_v e (CVar i) rest = MVar (level_of e i) ∷ rest
  clin_v e (CInt n) rest = MInt n ∷ rest
  clin_v e (CTuple vs) rest = clin_vs e vs (MTuple (cwidth vs) ∷ rest)
  clin_v e (CCode owes args body) rest = MCode owes args ∷ clin_t (lift (ccount args) 1) body (MEnd ∷ rest)
  clin_v e (CApply v ts) rest = clin_v e v (MApply ts ∷ rest)
  clin_v e (CPack h v s) rest = clin_v e v (MPack h s ∷ rest)

  pub clin_vs : ℕ → CVals → List CNd → List CNd
  clin_vs e NoCVals rest = rest
  clin_vs e (MoreCVals v vs) rest = clin_v e v (clin_vs e vs rest)

  pub clin_d : ℕ → CDecl → List CNd → List CNd
  clin_d e (CName v) rest = clin_v e v (MName e ∷ rest)
  clin_d e (CProj i v) rest = clin_v e v (MProj e i ∷ rest)
  clin_d e (CArith op v w) rest = clin_v e v (clin_v e w (MArith e op ∷ rest))
  clin_d e (CUnpack v) rest = clin_v e v (MUnpack e ∷ rest)
  clin_d e (CCell v) rest = clin_v e v (MCell e ∷ rest)
  clin_d e (CGet v) rest = clin_v e v (MGet e ∷ rest)
  clin_d e (CSet v w) rest = clin_v e v (clin_v e w (MSet e ∷ rest))

  pub clin_t : ℕ → CTm → List CNd → List CNd
  clin_t e (CLet x t) rest = clin_d e x (clin_t (suc e) t rest)
  clin_t e (CCall f ts vs) rest = clin_v e f (MCall ts (cwidth vs) ∷ clin_vs e vs rest)
  clin_t e (CIf v t u) rest = clin_v e v (MIf ∷ clin_t e t (MElse ∷ clin_t e u rest))
  clin_t e (CHalt v) rest = clin_v e v (MHalt ∷ rest)
