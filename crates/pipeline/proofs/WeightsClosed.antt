-- Closure conversion keeps the weight.
use Rattle.std.proofs.Common.{◌≡◌, ℕ, zero, suc, ◌+◌, Bool, true, false, [], ◌∷◌, Option, Some, None, refl, ◌∙◌, arith}
use Rattle.c_rules.specs.Places.{Places, place, kept_count}
use Rattle.k_terms.specs.K.{KVal, KVar, KInt, KTuple, KCode, KVals, NoKVals, MoreKVals, KDecl, KName, KProj, KArith}
use Rattle.k_terms.specs.K.{KPack, KUnpack, KCell, KGet, KSet, KTm, KLet, KCall, KIf, KHalt, kcount}
use Rattle.c_terms.specs.C.{CVal, CVar, CInt, CTuple, CCode, CApply, CPack, CVals, NoCVals, MoreCVals, CDecl, CName}
use Rattle.c_terms.specs.C.{CProj, CArith, CUnpack, CCell, CGet, CSet, CTm, CLet, CCall, CIf, CHalt}
use Rattle.c_rules.specs.Close.{Scope, keeps, uses, var_value, pick_one, picked, projections, named, rebuilt, inner}
use Rattle.c_rules.specs.Close.{with_decl, in_call, no_scope, close_v, close_vs, close_d, close_t, close_of}
use Rattle.pipeline.specs.Weights.{Weights}
use Rattle.pipeline.proofs.WeightsConverted.{k_v, k_vs, k_d, k_t}

abbrev mutual
  pub c_v : Weights → CVal → ℕ
  c_v w (CVar i) = 0
  c_v w (CInt n) = 0
  c_v w (CTuple vs) = c_vs w vs
  c_v w (CCode owes args body) = c_t w body
  c_v w (CApply v ts) = c_v w v
  c_v w (CPack h v s) = c_v w v

  pub c_vs : Weights → CVals → ℕ
  c_vs w NoCVals = 0
  c_vs w (MoreCVals v vs) = c_v w v + c_vs w vs

  pub c_d : Weights → CDecl → ℕ
  c_d w (CName v) = c_v w v
  c_d w (CProj i v) = c_v w v
  c_d w (CArith op v u) = w.operation op + (c_v w v + c_v w u)
  c_d w (CUnpack v) = w.opening + c_v w v
  c_d w (CCell v) = c_v w v
  c_d w (CGet v) = c_v w v
  c_d w (CSet v u) = c_v w v + c_v w u

  pub c_t : Weights → CTm → ℕ
  c_t w (CLet d t) = c_d w d + c_t w t
  c_t w (CCall f ts vs) = w.jump + (c_v w f + c_vs w vs)
  c_t w (CIf v t u) = w.choice + (c_v w v + (c_t w t + c_t w u))
  c_t w (CHalt v) = w.halting + c_v w v

module _ (w : Weights) where
  of_var : (p : Option ℕ) → c_v w (var_value p) ≡ 0
  of_var None = refl
  of_var (Some j) = refl

  of_pick : (k : Bool) (p : Option ℕ) (vs : CVals) → c_vs w (pick_one k p vs) ≡ c_vs w vs
  of_pick true p vs = let x = of_var p in omega (arith, x)
  of_pick false p vs = refl

  of_picked : (keep : ℕ → Bool) (ps : Places) (vs : CVals) → c_vs w (picked keep ps vs) ≡ c_vs w vs
  of_picked keep [] vs = refl
  of_picked keep (p ∷ ps) vs =
      of_picked (λ i. keep (suc i)) ps (pick_one (keep 0) p vs) ∙ of_pick (keep 0) p vs

  of_projections : (k i e : ℕ) (t : CTm) → c_t w (projections k i e t) ≡ c_t w t
  of_projections zero i e t = refl
  of_projections (suc k) i e t = let r = of_projections k (suc i) (suc e) t in omega (arith, r)

  of_named : (u : Bool) (v : CVal) (t : CTm) → c_v w v ≡ 0 → c_t w (named u v t) ≡ c_t w t
  of_named true v t h = omega (arith, h)
  of_named false v t h = refl

  mutual
    of_v : (v : KVal) (s : Scope) → c_v w (close_v s v) ≡ k_v w v
    of_v (KVar i) s = of_var (place s.vars i)
    of_v (KInt n) s = refl
    of_v (KTuple vs) s = of_vs vs s
    of_v (KCode owes args body) s =
        let i = inner s owes args body in
        let t = close_t i body in
        let own = named (uses args body 0) (rebuilt s owes args body) t in
        let x = of_picked (keeps args body) s.vars NoCVals in
        let y = of_projections (kept_count (keeps args body) s.vars) 1 (kcount args) own in
        let z = of_named (uses args body 0) (rebuilt s owes args body) t refl in
        let r = of_t body i in
        omega (arith, x, y, z, r)

    of_vs : (vs : KVals) (s : Scope) → c_vs w (close_vs s vs) ≡ k_vs w vs
    of_vs NoKVals s = refl
    of_vs (MoreKVals v vs) s = let x = of_v v s in let y = of_vs vs s in omega (arith, x, y)

    of_d : (d : KDecl) (s : Scope) → c_d w (close_d s d) ≡ k_d w d
    of_d (KName v) s = of_v v s
    of_d (KProj i v) s = of_v v s
    of_d (KArith op v u) s = let x = of_v v s in let y = of_v u s in omega (arith, x, y)
    of_d (KPack hid v shape) s = of_v v s
    of_d (KUnpack v) s = let x = of_v v s in omega (arith, x)
    of_d (KCell v) s = of_v v s
    of_d (KGet v) s = of_v v s
    of_d (KSet v u) s = let x = of_v v s in let y = of_v u s in omega (arith, x, y)

    of_t : (t : KTm) (s : Scope) → c_t w (close_t s t) ≡ k_t w t
    of_t (KLet d t) s = let x = of_d d s in let y = of_t t (with_decl d s) in omega (arith, x, y)
    of_t (KCall f ts vs) s = let x = of_v f s in let y = of_vs vs (in_call s) in omega (arith, x, y)
    of_t (KIf v t u) s = let x = of_v v s in let y = of_t t s in let z = of_t u s in omega (arith, x, y, z)
    of_t (KHalt v) s = let x = of_v v s in omega (arith, x)

  pub closed_weight : (t : KTm) → c_t w (close_of t) ≡ k_t w t
  closed_weight t = of_t t no_scope
