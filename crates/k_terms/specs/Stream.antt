-- Terms as lists of nodes. Operands stand before what takes them, so that a walk from the first node to the last meets
-- values first; a code's body stands between the code's node and an end; variables stand by level. A call's node stands
-- between the code and the arguments, and no node ends the arguments: the call ends where the term does.
use Rattle.std.specs.Prelude.{ℤ, ℕ, suc, List, ◌∷◌}
use Rattle.idx_core.specs.declared.arith.Op.{Op}
use Rattle.calc_core.specs.Ends.{lift, after_one}
use Rattle.calc_core.specs.Levels.{level_of}
use Rattle.k_terms.specs.K.{KTy, KTys, KVal, KVar, KInt, KTuple, KCode, KVals, NoKVals, MoreKVals, KDecl, KName, KProj}
use Rattle.k_terms.specs.K.{KArith, KPack, KUnpack, KCell, KGet, KSet, KTm, KLet, KCall, KIf, KHalt, kcount}
use Rattle.k_terms.specs.K.{kbody_scope, opens, scope_more}
use Rattle.k_terms.specs.Types.{kd_type}

-- What binds has the level that it binds first, and the type of what it names. `depth` is the number of type variables
-- in scope: it stands where a node has types of the term itself, and where that number changes
pub data KNd : Type 0 where
  NVar : (level : ℕ) → KNd
  NInt : (n : ℤ) → KNd
  NTuple : (count : ℕ) → KNd
  NCode : (level depth owes : ℕ) (args : KTys) → KNd
  NEnd : KNd
  NName : (level : ℕ) (type : KTy) → KNd
  NProj : (level field : ℕ) (type : KTy) → KNd
  NArith : (level : ℕ) (op : Op) → KNd
  NPack : (level depth : ℕ) (hidden shape : KTy) → KNd
  NUnpack : (level depth : ℕ) (type : KTy) → KNd
  NCell : (level : ℕ) (type : KTy) → KNd
  NGet : (level : ℕ) (type : KTy) → KNd
  NSet : (level : ℕ) → KNd
  NCall : (level depth : ℕ) (types : KTys) (count : ℕ) → KNd
  NIf : KNd
  NElse : (depth : ℕ) → KNd
  NHalt : KNd

abbrev pub kwidth : KVals → ℕ
kwidth NoKVals = 0
kwidth (MoreKVals v vs) = suc (kwidth vs)

-- the nodes of a tree under d names and td type variables, the names of types g, before others
abbrev mutual
  pub klin_v : ℕ → ℕ → List KTy → KVal → List KNd → List KNd
  klin_v d td g (KVar i) rest = NVar (level_of d i) ∷ rest
  klin_v d td g (KInt n) rest = NInt n ∷ rest
  klin_v d td g (KTuple vs) rest = klin_vs d td g vs (NTuple (kwidth vs) ∷ rest)
  klin_v d td g (KCode owes args body) rest =
      NCode d td owes args
      ∷ klin_t (lift (kcount args) (suc d)) (lift owes td) (kbody_scope owes args g) body (NEnd ∷ rest)

  pub klin_vs : ℕ → ℕ → List KTy → KVals → List KNd → List KNd
  klin_vs d td g NoKVals rest = rest
  klin_vs d td g (MoreKVals v vs) rest = klin_v d td g v (klin_vs d td g vs rest)

  pub klin_d : ℕ → ℕ → List KTy → KDecl → List KNd → List KNd
  klin_d d td g (KName v) rest = klin_v d td g v (NName d (kd_type g (KName v)) ∷ rest)
  klin_d d td g (KProj i v) rest = klin_v d td g v (NProj d i (kd_type g (KProj i v)) ∷ rest)
  klin_d d td g (KArith op v w) rest = klin_v d td g v (klin_v d td g w (NArith d op ∷ rest))
  klin_d d td g (KPack h v s) rest = klin_v d td g v (NPack d td h s ∷ rest)
  klin_d d td g (KUnpack v) rest = klin_v d td g v (NUnpack d td (kd_type g (KUnpack v)) ∷ rest)
  klin_d d td g (KCell v) rest = klin_v d td g v (NCell d (kd_type g (KCell v)) ∷ rest)
  klin_d d td g (KGet v) rest = klin_v d td g v (NGet d (kd_type g (KGet v)) ∷ rest)
  klin_d d td g (KSet v w) rest = klin_v d td g v (klin_v d td g w (NSet d ∷ rest))

  pub klin_t : ℕ → ℕ → List KTy → KTm → List KNd → List KNd
  klin_t d td g (KLet x t) rest =
      klin_d d td g x
      (klin_t (suc d) (after_one (opens x) td) (kd_type g x ∷ scope_more (opens x) g) t rest)
  klin_t d td g (KCall f ts vs) rest = klin_v d td g f (NCall d td ts (kwidth vs) ∷ klin_vs d td g vs rest)
  klin_t d td g (KIf v t u) rest =
      klin_v d td g v (NIf ∷ klin_t d td g t (NElse td ∷ klin_t d td g u rest))
  klin_t d td g (KHalt v) rest = klin_v d td g v (NHalt ∷ rest)
