-- The free variables and the free type variables of terms, by index.
use Rattle.std.specs.Prelude.{◌≡◌, ℕ, suc, Bool, true, false, ◌||◌, nat_eq}
use Rattle.calc_core.specs.Ends.{lift, after_one}
use Rattle.k_terms.specs.K.{KTy, KTys, TKInt, TKVar, TKTuple, TKCode, TKExists, TKRef, NoKTys, MoreKTys, KVal, KVar}
use Rattle.k_terms.specs.K.{KInt}
use Rattle.k_terms.specs.K.{KTuple, KCode, KVals, NoKVals, MoreKVals, KDecl, KName, KProj, KArith, KPack, KUnpack}
use Rattle.k_terms.specs.K.{KCell, KGet, KSet, KTm, KLet, KCall, KIf, KHalt, kcount, opens}

-- variable i is free
abbrev mutual
  pub occurs_v : ℕ → KVal → Bool
  occurs_v i (KVar j) = nat_eq i j
  occurs_v i (KInt n) = false
  occurs_v i (KTuple vs) = occurs_vs i vs
  occurs_v i (KCode owes args body) = occurs_t (lift (kcount args) (suc i)) body

  pub occurs_vs : ℕ → KVals → Bool
  occurs_vs i NoKVals = false
  occurs_vs i (MoreKVals v vs) = occurs_v i v || occurs_vs i vs

  pub occurs_d : ℕ → KDecl → Bool
  occurs_d i (KName v) = occurs_v i v
  occurs_d i (KProj n v) = occurs_v i v
  occurs_d i (KArith op v w) = occurs_v i v || occurs_v i w
  occurs_d i (KPack h v s) = occurs_v i v
  occurs_d i (KUnpack v) = occurs_v i v
  occurs_d i (KCell v) = occurs_v i v
  occurs_d i (KGet v) = occurs_v i v
  occurs_d i (KSet v w) = occurs_v i v || occurs_v i w

  pub occurs_t : ℕ → KTm → Bool
  occurs_t i (KLet d t) = occurs_d i d || occurs_t (suc i) t
  occurs_t i (KCall f ts vs) = occurs_v i f || occurs_vs i vs
  occurs_t i (KIf v t u) = occurs_v i v || (occurs_t i t || occurs_t i u)
  occurs_t i (KHalt v) = occurs_v i v

-- type variable j is free in a type
abbrev mutual
  pub tfree : ℕ → KTy → Bool
  tfree j TKInt = false
  tfree j (TKVar i) = nat_eq j i
  tfree j (TKTuple ts) = tfrees j ts
  tfree j (TKCode n ts) = tfrees (lift n j) ts
  tfree j (TKExists t) = tfree (suc j) t
  tfree j (TKRef t) = tfree j t

  pub tfrees : ℕ → KTys → Bool
  tfrees j NoKTys = false
  tfrees j (MoreKTys t ts) = tfree j t || tfrees j ts

-- and in a term, the types that are written in it
abbrev mutual
  pub tfree_v : ℕ → KVal → Bool
  tfree_v j (KVar i) = false
  tfree_v j (KInt n) = false
  tfree_v j (KTuple vs) = tfree_vs j vs
  tfree_v j (KCode owes args body) = tfrees (lift owes j) args || tfree_t (lift owes j) body

  pub tfree_vs : ℕ → KVals → Bool
  tfree_vs j NoKVals = false
  tfree_vs j (MoreKVals v vs) = tfree_v j v || tfree_vs j vs

  pub tfree_d : ℕ → KDecl → Bool
  tfree_d j (KName v) = tfree_v j v
  tfree_d j (KProj n v) = tfree_v j v
  tfree_d j (KArith op v w) = tfree_v j v || tfree_v j w
  tfree_d j (KPack h v s) = tfree j h || (tfree_v j v || tfree j s)
  tfree_d j (KUnpack v) = tfree_v j v
  tfree_d j (KCell v) = tfree_v j v
  tfree_d j (KGet v) = tfree_v j v
  tfree_d j (KSet v w) = tfree_v j v || tfree_v j w

  pub tfree_t : ℕ → KTm → Bool
  tfree_t j (KLet d t) = tfree_d j d || tfree_t (after_one (opens d) j) t
  tfree_t j (KCall f ts vs) = tfree_v j f || (tfrees j ts || tfree_vs j vs)
  tfree_t j (KIf v t u) = tfree_v j v || (tfree_t j t || tfree_t j u)
  tfree_t j (KHalt v) = tfree_v j v

-- no variable and no type variable is free
abbrev pub IsClosed : KTm → Type 0
IsClosed t = ((i : ℕ) → occurs_t i t ≡ true → ⊥) × ((j : ℕ) → tfree_t j t ≡ true → ⊥)
