-- The conversion keeps the numbers of codes.
use Rattle.std.proofs.Common.{◌≡◌, ℕ, zero, suc, Bool, true, false, [], ◌∷◌, Option, Some, None, refl, ap, ◌∙◌}
use Rattle.c_rules.specs.Places.{Places, kept_count}
use Rattle.k_terms.specs.K.{KTys, KVal, KVar, KInt, KTuple, KCode, KVals, NoKVals, MoreKVals, KDecl, KName, KProj}
use Rattle.k_terms.specs.K.{KArith, KPack, KUnpack, KCell, KGet, KSet, KTm, KLet, KCall, KIf, KHalt, kv_next, kvs_next}
use Rattle.k_terms.specs.K.{kd_next, kt_next, kcount}
use Rattle.c_terms.specs.C.{CVals, CTm, NoCVals, cv_next, cvs_next, cd_next, ct_next}
use Rattle.c_rules.specs.Close.{Scope, var_value, pick_one, picked, keeps, uses, named, inner, rebuilt, projections}
use Rattle.c_rules.specs.Close.{closed_body, with_decl, in_call, close_v, close_vs, close_d, close_t}

pub var_next : (b : ℕ) (p : Option ℕ) → cv_next b (var_value p) ≡ b
var_next b None = refl
var_next b (Some j) = refl

pick_one_next : (b : ℕ) (k : Bool) (p : Option ℕ) (vs : CVals) → cvs_next b (pick_one k p vs) ≡ cvs_next b vs
pick_one_next b true p vs = ap (λ c. cvs_next c vs) (var_next b p)
pick_one_next b false p vs = refl

pub picked_next : (b : ℕ) (keep : ℕ → Bool) (ps : Places) (vs : CVals) → cvs_next b (picked keep ps vs) ≡ cvs_next b vs
picked_next b keep [] vs = refl
picked_next b keep (p ∷ ps) vs =
    picked_next b (λ i. keep (suc i)) ps (pick_one (keep 0) p vs) ∙ pick_one_next b (keep 0) p vs

pub projections_next : (b k i e : ℕ) (t : CTm) → ct_next b (projections k i e t) ≡ ct_next b t
projections_next b zero i e t = refl
projections_next b (suc k) i e t = projections_next b k (suc i) (suc e) t

named_next : (u : Bool) (b : ℕ) (s : Scope) (owes : ℕ) (args : KTys) (body : KTm) (t : CTm) →
    ct_next b (named u (rebuilt s owes args body) t) ≡ ct_next b t
named_next true b s owes args body t = refl
named_next false b s owes args body t = refl

pub body_next : (b : ℕ) (s : Scope) (owes : ℕ) (args : KTys) (body : KTm) (t : CTm) →
    ct_next b (closed_body s owes args body t) ≡ ct_next b t
body_next b s owes args body t =
    projections_next b (kept_count (keeps args body) s.vars) 1 (kcount args)
    (named (uses args body 0) (rebuilt s owes args body) t)
    ∙ named_next (uses args body 0) b s owes args body t

mutual
  pub v_next : (v : KVal) (s : Scope) (b : ℕ) → cv_next b (close_v s v) ≡ kv_next b v
  v_next (KVar i) s b = var_next b _
  v_next (KInt n) s b = refl
  v_next (KTuple vs) s b = vs_next vs s b
  v_next (KCode owes args body) s b =
      picked_next _ (keeps args body) s.vars NoCVals
      ∙ body_next (suc b) s owes args body (close_t (inner s owes args body) body)
      ∙ t_next body (inner s owes args body) (suc b)

  pub vs_next : (vs : KVals) (s : Scope) (b : ℕ) → cvs_next b (close_vs s vs) ≡ kvs_next b vs
  vs_next NoKVals s b = refl
  vs_next (MoreKVals v vs) s b = ap (λ c. cvs_next c (close_vs s vs)) (v_next v s b) ∙ vs_next vs s (kv_next b v)

  pub d_next : (d : KDecl) (s : Scope) (b : ℕ) → cd_next b (close_d s d) ≡ kd_next b d
  d_next (KName v) s b = v_next v s b
  d_next (KProj i v) s b = v_next v s b
  d_next (KArith op v w) s b = ap (λ c. cv_next c (close_v s w)) (v_next v s b) ∙ v_next w s (kv_next b v)
  d_next (KPack h v t) s b = v_next v s b
  d_next (KUnpack v) s b = v_next v s b
  d_next (KCell v) s b = v_next v s b
  d_next (KGet v) s b = v_next v s b
  d_next (KSet v w) s b = ap (λ c. cv_next c (close_v s w)) (v_next v s b) ∙ v_next w s (kv_next b v)

  pub t_next : (t : KTm) (s : Scope) (b : ℕ) → ct_next b (close_t s t) ≡ kt_next b t
  t_next (KLet d t) s b =
      ap (λ c. ct_next c (close_t (with_decl d s) t)) (d_next d s b) ∙ t_next t (with_decl d s) (kd_next b d)
  t_next (KCall f ts vs) s b =
      ap (λ c. cvs_next c (close_vs (in_call s) vs)) (v_next f s b) ∙ vs_next vs (in_call s) (kv_next b f)
  t_next (KIf v t u) s b =
      ap (λ c. ct_next (ct_next c (close_t s t)) (close_t s u)) (v_next v s b)
      ∙ ap (λ c. ct_next c (close_t s u)) (t_next t s (kv_next b v)) ∙ t_next u s (kt_next (kv_next b v) t)
  t_next (KHalt v) s b = v_next v s b
