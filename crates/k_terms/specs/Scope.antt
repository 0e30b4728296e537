-- Terms whose names and type variables are in scope.
use Rattle.std.specs.Prelude.{◌<◌, ℕ, suc}
use Rattle.calc_core.specs.Ends.{lift, after_one}
use Rattle.k_terms.specs.K.{KVal, KVar, KInt, KTuple, KCode, KVals, NoKVals, MoreKVals, KDecl, KName, KProj, KArith}
use Rattle.k_terms.specs.K.{KPack, KUnpack, KCell, KGet, KSet, KTm, KLet, KCall, KIf, KHalt, kcount, opens}
use Rattle.k_terms.specs.Typing.{KIn, KIns}

-- under d names and n type variables
abbrev mutual
  pub ValueIn : ℕ → ℕ → KVal → Type 0
  ValueIn d n (KVar i) = i < d
  ValueIn d n (KInt m) = Unit {0}
  ValueIn d n (KTuple vs) = ValuesIn d n vs
  ValueIn d n (KCode owes args body) =
      KIns (lift owes n) args × TermIn (lift (kcount args) (suc d)) (lift owes n) body

  pub ValuesIn : ℕ → ℕ → KVals → Type 0
  ValuesIn d n NoKVals = Unit {0}
  ValuesIn d n (MoreKVals v vs) = ValueIn d n v × ValuesIn d n vs

  pub DeclIn : ℕ → ℕ → KDecl → Type 0
  DeclIn d n (KName v) = ValueIn d n v
  DeclIn d n (KProj i v) = ValueIn d n v
  DeclIn d n (KArith op v w) = ValueIn d n v × ValueIn d n w
  DeclIn d n (KPack h v s) = KIn n h × KIn n s × ValueIn d n v
  DeclIn d n (KUnpack v) = ValueIn d n v
  DeclIn d n (KCell v) = ValueIn d n v
  DeclIn d n (KGet v) = ValueIn d n v
  DeclIn d n (KSet v w) = ValueIn d n v × ValueIn d n w

  pub TermIn : ℕ → ℕ → KTm → Type 0
  TermIn d n (KLet x t) = DeclIn d n x × TermIn (suc d) (after_one (opens x) n) t
  TermIn d n (KCall f ts vs) = ValueIn d n f × KIns n ts × ValuesIn d n vs
  TermIn d n (KIf v t u) = ValueIn d n v × TermIn d n t × TermIn d n u
  TermIn d n (KHalt v) = ValueIn d n v
