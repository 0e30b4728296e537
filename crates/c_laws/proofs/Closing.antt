-- What the conversion gives has its names in scope, whatever it is given.
use Rattle.std.proofs.Common.{◌≡◌, ◌<◌, ◌≤◌, ℕ, zero, suc, ◌+◌, Bool, true, false, [], ◌∷◌, Option, Some, None, refl}
use Rattle.std.proofs.Common.{sym, subst, arith}
use Rattle.std.proofs.lemmas.Option.{same_Some}
use Rattle.c_rules.specs.Places.{Places, further, place, from_on, kept_places, kept_count, keep_one}
use Rattle.calc_core.specs.Ends.{after_one, lift}
use Rattle.k_terms.specs.K.{KTy, KTys, KVal, KVar, KInt, KTuple, KCode, KVals, NoKVals, MoreKVals, KDecl, KName, KProj}
use Rattle.k_terms.specs.K.{KArith, KPack, KUnpack, KCell, KGet, KSet, KTm, KLet, KCall, KIf, KHalt, kcount, opens}
use Rattle.k_terms.specs.Types.{kd_type}
use Rattle.c_terms.specs.C.{CVal, CVals, NoCVals, CTm, ccount}
use Rattle.c_rules.specs.Close.{Scope, uses, keeps, var_value, pick_one, picked, projections, named, rebuilt}
use Rattle.c_rules.specs.Close.{closed_body, closed_args, inner, with_var, open_if, with_decl, in_call, ctypes, close_v}
use Rattle.c_rules.specs.Close.{close_vs, close_d, close_t, close_of, no_scope}
use Rattle.c_terms.specs.Scope.{CScoped_v, CScoped_vs, CScoped_d, CScoped}
use Rattle.calc_core.proofs.Lifts.{lift_add, lift_suc}
use Rattle.c_laws.proofs.Meaning.{ctypes_count as count_types}
use Rattle.c_laws.proofs.BodySizes.{after_more as after_up}

-- places are among the first e
abbrev Among : ℕ → Places → Type 0
Among e ps = (i j : ℕ) → place ps i ≡ Some j → j < e

none_is : (b : ℕ) → None ≡ Some b → ⊥
none_is b e = cc

tail : (e : ℕ) (p : Option ℕ) (ps : Places) → Among e (p ∷ ps) → Among e ps
tail e p ps h = λ i j q. h (suc i) j q

further_among : (e : ℕ) (ps : Places) → Among e ps → Among (suc e) (further ps)
further_among e [] h i j q = absurd (none_is j q)
further_among e (None ∷ ps) h zero j q = absurd (none_is j q)
further_among e (Some k ∷ ps) h zero j q = let r = h zero k refl in omega (arith, r, same_Some (suc k) j q)
further_among e (p ∷ ps) h (suc i) j q = further_among e ps (tail e p ps h) i j q

from_among : (b o n : ℕ) (ps : Places) → o + n ≤ b → Among b ps → Among b (from_on o n ps)
from_among b o zero ps le h i j q = h i j q
from_among b o (suc n) ps le h zero j q = omega (arith, le, same_Some o j q)
from_among b o (suc n) ps le h (suc i) j q = from_among b (suc o) n ps (omega (arith, le)) h i j q

first_kept : (b : Bool) (o j n : ℕ) → keep_one b o ≡ Some j → j < o + after_one b n
first_kept true o j n q = omega (arith, same_Some o j q)
first_kept false o j n q = absurd (none_is j q)

after_sum : (b : Bool) (o n : ℕ) → after_one b o + n ≡ o + after_one b n
after_sum true o n = omega arith
after_sum false o n = refl

kept_among : (o : ℕ) (keep : ℕ → Bool) (ps : Places) (i j : ℕ) → place (kept_places o keep ps) i ≡ Some j →
    j < o + kept_count keep ps
kept_among o keep [] i j q = absurd (none_is j q)
kept_among o keep (p ∷ ps) zero j q = first_kept (keep 0) o j (kept_count (λ i. keep (suc i)) ps) q
kept_among o keep (p ∷ ps) (suc i) j q =
    let r = kept_among (after_one (keep 0) o) (λ i. keep (suc i)) ps i j q in
    omega (arith, r, after_sum (keep 0) o (kept_count (λ i. keep (suc i)) ps))

value_of : (e : ℕ) (p : Option ℕ) → ((j : ℕ) → p ≡ Some j → j < e) → CScoped_v e (var_value p)
value_of e None h = tt
value_of e (Some j) h = h j refl

one_in : (b : Bool) (e : ℕ) (p : Option ℕ) (vs : CVals) → CScoped_v e (var_value p) → CScoped_vs e vs →
    CScoped_vs e (pick_one b p vs)
one_in true e p vs h k = (h, k)
one_in false e p vs h k = k

picked_in : (e : ℕ) (keep : ℕ → Bool) (ps : Places) (vs : CVals) → Among e ps → CScoped_vs e vs →
    CScoped_vs e (picked keep ps vs)
picked_in e keep [] vs h k = k
picked_in e keep (p ∷ ps) vs h k =
    picked_in e (λ i. keep (suc i)) ps (pick_one (keep 0) p vs) (tail e p ps h)
    (one_in (keep 0) e p vs (value_of e p (λ j q. h zero j q)) k)

projections_in : (k i e d : ℕ) (t : CTm) → e < d → CScoped (lift k d) t → CScoped d (projections k i e t)
projections_in zero i e d t lt h = h
projections_in (suc k) i e d t lt h = (
  lt,
  projections_in k (suc i) (suc e) (suc d) t (omega (arith, lt))
      (subst (λ x. CScoped x t) (sym (lift_suc k d)) h),
)

named_in : (b : Bool) (d : ℕ) (v : CVal) (t : CTm) → CScoped_v d v → CScoped (after_one b d) t → CScoped d (named b v t)
named_in true d v t h k = (h, k)
named_in false d v t h k = k

-- the number of names in the body of a closed code, before its fields are named
abbrev start : Scope → ℕ → KTys → KTm → ℕ
start s owes args body = lift (ccount (closed_args s owes args body)) 1

start_is : (s : Scope) (owes : ℕ) (args : KTys) (body : KTm) → start s owes args body ≡ suc (suc (kcount args))
start_is s owes args body =
    omega (
      arith,
      lift_add (ccount (ctypes (inner s owes args body).tvar args)) 1,
      count_types (inner s owes args body).tvar args,
    )

code_in : (s : Scope) (owes : ℕ) (args : KTys) (body : KTm) (t : CTm) →
    CScoped (after_one (uses args body 0) (lift (kept_count (keeps args body) s.vars) (start s owes args body))) t →
    CScoped (start s owes args body) (closed_body s owes args body t)
code_in s owes args body t h =
    let k = kept_count (keeps args body) s.vars in
    let n = kcount args in
    let d = start s owes args body in
    let is = start_is s owes args body in
    projections_in k 1 n d _ (omega (arith, is))
    (named_in (uses args body 0) (lift k d) (rebuilt s owes args body) t
    (omega (arith, is, lift_add k d, lift_add k (suc n)), (omega (arith, is, lift_add k d, lift_add k n), tt)) h)

pub after_add : (b : Bool) (x y : ℕ) → after_one b x + y ≡ after_one b (x + y)
after_add true x y = omega arith
after_add false x y = refl

inner_among : (s : Scope) (owes : ℕ) (args : KTys) (body : KTm) →
    Among (after_one (uses args body 0) (lift (kept_count (keeps args body) s.vars) (start s owes args body)))
    (inner s owes args body).vars
inner_among s owes args body =
    let k = kept_count (keeps args body) s.vars in
    let n = kcount args in
    let own = uses args body 0 in
    let d = start s owes args body in
    let b = after_one own (lift k d) in
    let up : after_one own (k + n) ≤ b =
    after_up own (k + n) (lift k d) (omega (arith, start_is s owes args body, lift_add k d)) in
    from_among b (after_one own k) n (kept_places 0 (uses args body) (None ∷ s.vars))
    (omega (arith, up, after_add own k n))
    (λ i j q. let r = kept_among 0 (uses args body) (None ∷ s.vars) i j q in omega (arith, r, up, after_add own k n))

next : (e : ℕ) (ps : Places) → Among e ps → Among (suc e) (Some 0 ∷ further ps)
next e ps h zero j q = omega (arith, same_Some 0 j q)
next e ps h (suc i) j q = further_among e ps h i j q

open_next : (b : Bool) (t : KTy) (s : Scope) (e : ℕ) → Among e s.vars → Among (suc e) (with_var t (open_if b s)).vars
open_next true t s e h = next e s.vars h
open_next false t s e h = next e s.vars h

mutual
  v_in : (v : KVal) (s : Scope) (e : ℕ) → Among e s.vars → CScoped_v e (close_v s v)
  v_in (KVar i) s e h = value_of e (place s.vars i) (λ j q. h i j q)
  v_in (KInt n) s e h = tt
  v_in (KTuple vs) s e h = vs_in vs s e h
  v_in (KCode owes args body) s e h = (
    code_in s owes args body (close_t (inner s owes args body) body)
        (t_in body (inner s owes args body) _ (inner_among s owes args body)),
    (picked_in e (keeps args body) s.vars NoCVals h tt, tt),
  )

  vs_in : (vs : KVals) (s : Scope) (e : ℕ) → Among e s.vars → CScoped_vs e (close_vs s vs)
  vs_in NoKVals s e h = tt
  vs_in (MoreKVals v vs) s e h = (v_in v s e h, vs_in vs s e h)

  d_in : (x : KDecl) (s : Scope) (e : ℕ) → Among e s.vars → CScoped_d e (close_d s x)
  d_in (KName v) s e h = v_in v s e h
  d_in (KProj i v) s e h = v_in v s e h
  d_in (KArith op v w) s e h = (v_in v s e h, v_in w s e h)
  d_in (KPack hid v shape) s e h = v_in v s e h
  d_in (KUnpack v) s e h = v_in v s e h
  d_in (KCell v) s e h = v_in v s e h
  d_in (KGet v) s e h = v_in v s e h
  d_in (KSet v w) s e h = (v_in v s e h, v_in w s e h)

  t_in : (t : KTm) (s : Scope) (e : ℕ) → Among e s.vars → CScoped e (close_t s t)
  t_in (KLet x t) s e h = (d_in x s e h, t_in t (with_decl x s) (suc e) (open_next (opens x) (kd_type s.types x) s e h))
  t_in (KCall f ts vs) s e h = (
    v_in f s e h,
    (
      omega arith,
      (
        omega arith,
        (
          omega arith,
          (
            omega arith,
            vs_in vs (in_call s) (suc (suc (suc e)))
                (further_among (suc (suc e)) (further (further s.vars))
                (further_among (suc e) (further s.vars) (further_among e s.vars h))),
          ),
        ),
      ),
    ),
  )
  t_in (KIf v t u) s e h = (v_in v s e h, t_in t s e h, t_in u s e h)
  t_in (KHalt v) s e h = v_in v s e h

pub close_in : (t : KTm) → CScoped 0 (close_of t)
close_in t = t_in t no_scope 0 (λ i j q. absurd (none_is j q))
