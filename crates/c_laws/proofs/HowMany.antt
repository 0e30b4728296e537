-- The numbers of codes and choices.
use Rattle.std.proofs.Common.{◌≡◌, ◌≤◌, ℕ, zero, suc, ◌+◌, Bool, true, false, [], ◌∷◌, Option, Some, None, refl, ◌∙◌}
use Rattle.std.proofs.Common.{arith}
use Rattle.c_rules.specs.Places.{Places, place, kept_count}
use Rattle.k_terms.specs.K.{KVal, KVar, KInt, KTuple, KCode, KVals, NoKVals, MoreKVals, KDecl, KName, KProj, KArith}
use Rattle.k_terms.specs.K.{KPack, KUnpack, KCell, KGet, KSet, KTm, KLet, KCall, KIf, KHalt, kcount, kv_next, kvs_next}
use Rattle.k_terms.specs.K.{kd_next, kt_next}
use Rattle.k_terms.specs.Size.{ksize_v, ksize_vs, ksize_d, ksize_t}
use Rattle.c_terms.specs.C.{CVal, CVals, NoCVals, CTm}
use Rattle.c_rules.specs.Close.{Scope, keeps, uses, var_value, pick_one, picked, projections, named, rebuilt, inner}
use Rattle.c_rules.specs.Close.{with_decl, in_call, no_scope, close_v, close_vs, close_d, close_t, close_of}
use Rattle.c_terms.specs.Size.{cifs_v, cifs_vs, cifs_d, cifs_t}

-- how many choices stand in a term
abbrev mutual
  pub kifs_v : KVal → ℕ
  kifs_v (KVar i) = 0
  kifs_v (KInt n) = 0
  kifs_v (KTuple vs) = kifs_vs vs
  kifs_v (KCode owes args body) = kifs_t body

  pub kifs_vs : KVals → ℕ
  kifs_vs NoKVals = 0
  kifs_vs (MoreKVals v vs) = kifs_v v + kifs_vs vs

  pub kifs_d : KDecl → ℕ
  kifs_d (KName v) = kifs_v v
  kifs_d (KProj i v) = kifs_v v
  kifs_d (KArith op v w) = kifs_v v + kifs_v w
  kifs_d (KPack h v s) = kifs_v v
  kifs_d (KUnpack v) = kifs_v v
  kifs_d (KCell v) = kifs_v v
  kifs_d (KGet v) = kifs_v v
  kifs_d (KSet v w) = kifs_v v + kifs_v w

  pub kifs_t : KTm → ℕ
  kifs_t (KLet d t) = kifs_d d + kifs_t t
  kifs_t (KCall f ts vs) = kifs_v f + kifs_vs vs
  kifs_t (KIf v t u) = 1 + kifs_v v + kifs_t t + kifs_t u
  kifs_t (KHalt v) = kifs_v v

var_ifs : (p : Option ℕ) → cifs_v (var_value p) ≡ 0
var_ifs None = refl
var_ifs (Some j) = refl

pick_ifs : (k : Bool) (p : Option ℕ) (vs : CVals) → cifs_vs (pick_one k p vs) ≡ cifs_vs vs
pick_ifs true p vs = let x = var_ifs p in omega (arith, x)
pick_ifs false p vs = refl

picked_ifs : (keep : ℕ → Bool) (ps : Places) (vs : CVals) → cifs_vs (picked keep ps vs) ≡ cifs_vs vs
picked_ifs keep [] vs = refl
picked_ifs keep (p ∷ ps) vs = picked_ifs (λ i. keep (suc i)) ps (pick_one (keep 0) p vs) ∙ pick_ifs (keep 0) p vs

projections_ifs : (k i e : ℕ) (t : CTm) → cifs_t (projections k i e t) ≡ cifs_t t
projections_ifs zero i e t = refl
projections_ifs (suc k) i e t = let r = projections_ifs k (suc i) (suc e) t in omega (arith, r)

named_ifs : (u : Bool) (v : CVal) (t : CTm) → cifs_v v ≡ 0 → cifs_t (named u v t) ≡ cifs_t t
named_ifs true v t h = omega (arith, h)
named_ifs false v t h = refl

mutual
  ifs_v : (v : KVal) (s : Scope) → cifs_v (close_v s v) ≡ kifs_v v
  ifs_v (KVar i) s = var_ifs (place s.vars i)
  ifs_v (KInt n) s = refl
  ifs_v (KTuple vs) s = ifs_vs vs s
  ifs_v (KCode owes args body) s =
      let i = inner s owes args body in
      let t = close_t i body in
      let x = picked_ifs (keeps args body) s.vars NoCVals in
      let y = projections_ifs (kept_count (keeps args body) s.vars) 1 (kcount args)
      (named (uses args body 0) (rebuilt s owes args body) t) in
      let z = named_ifs (uses args body 0) (rebuilt s owes args body) t refl in
      let w = ifs_t body i in
      omega (arith, x, y, z, w)

  ifs_vs : (vs : KVals) (s : Scope) → cifs_vs (close_vs s vs) ≡ kifs_vs vs
  ifs_vs NoKVals s = refl
  ifs_vs (MoreKVals v vs) s = let x = ifs_v v s in let y = ifs_vs vs s in omega (arith, x, y)

  ifs_d : (d : KDecl) (s : Scope) → cifs_d (close_d s d) ≡ kifs_d d
  ifs_d (KName v) s = ifs_v v s
  ifs_d (KProj i v) s = ifs_v v s
  ifs_d (KArith op v w) s = let x = ifs_v v s in let y = ifs_v w s in omega (arith, x, y)
  ifs_d (KPack hid v shape) s = ifs_v v s
  ifs_d (KUnpack v) s = ifs_v v s
  ifs_d (KCell v) s = ifs_v v s
  ifs_d (KGet v) s = ifs_v v s
  ifs_d (KSet v w) s = let x = ifs_v v s in let y = ifs_v w s in omega (arith, x, y)

  ifs_t : (t : KTm) (s : Scope) → cifs_t (close_t s t) ≡ kifs_t t
  ifs_t (KLet d t) s = let x = ifs_d d s in let y = ifs_t t (with_decl d s) in omega (arith, x, y)
  ifs_t (KCall f ts vs) s = let x = ifs_v f s in let y = ifs_vs vs (in_call s) in omega (arith, x, y)
  ifs_t (KIf v t u) s = let x = ifs_v v s in let y = ifs_t t s in let z = ifs_t u s in omega (arith, x, y, z)
  ifs_t (KHalt v) s = ifs_v v s

pub close_counts : (t : KTm) → cifs_t (close_of t) ≡ kifs_t t
close_counts t = ifs_t t no_scope

-- codes and choices together are no more than the nodes
mutual
  few_v : (v : KVal) (b : ℕ) → kv_next b v + kifs_v v ≤ b + ksize_v v
  few_v (KVar i) b = omega arith
  few_v (KInt n) b = omega arith
  few_v (KTuple vs) b = let r = few_vs vs b in omega (arith, r)
  few_v (KCode owes args body) b = let r = few_t body (suc b) in omega (arith, r)

  few_vs : (vs : KVals) (b : ℕ) → kvs_next b vs + kifs_vs vs ≤ b + ksize_vs vs
  few_vs NoKVals b = omega arith
  few_vs (MoreKVals v vs) b = let x = few_v v b in let y = few_vs vs (kv_next b v) in omega (arith, x, y)

  few_d : (d : KDecl) (b : ℕ) → kd_next b d + kifs_d d ≤ b + ksize_d d
  few_d (KName v) b = let r = few_v v b in omega (arith, r)
  few_d (KProj i v) b = let r = few_v v b in omega (arith, r)
  few_d (KArith op v w) b = let x = few_v v b in let y = few_v w (kv_next b v) in omega (arith, x, y)
  few_d (KPack hid v shape) b = let r = few_v v b in omega (arith, r)
  few_d (KUnpack v) b = let r = few_v v b in omega (arith, r)
  few_d (KCell v) b = let r = few_v v b in omega (arith, r)
  few_d (KGet v) b = let r = few_v v b in omega (arith, r)
  few_d (KSet v w) b = let x = few_v v b in let y = few_v w (kv_next b v) in omega (arith, x, y)

  few_t : (t : KTm) (b : ℕ) → kt_next b t + kifs_t t ≤ b + ksize_t t
  few_t (KLet d t) b = let x = few_d d b in let y = few_t t (kd_next b d) in omega (arith, x, y)
  few_t (KCall f ts vs) b = let x = few_v f b in let y = few_vs vs (kv_next b f) in omega (arith, x, y)
  few_t (KIf v t u) b =
      let x = few_v v b in
      let y = few_t t (kv_next b v) in let z = few_t u (kt_next (kv_next b v) t) in omega (arith, x, y, z)
  few_t (KHalt v) b = let r = few_v v b in omega (arith, r)

pub few : (t : KTm) → kt_next 0 t + kifs_t t ≤ ksize_t t
few t = let r = few_t t 0 in omega (arith, r)
