-- The conversion keeps types, and each property of types that it can kp.
use Rattle.std.proofs.Common.{None, ◌≡◌, ◌<◌, ℕ, zero, suc, Bool, true, false, ◌||◌, ◌&&◌, List, [], ◌∷◌, ◌++◌, refl}
use Rattle.std.proofs.Common.{sym, ap, ◌∙◌, subst, subst₂, ap₂, arith, eq-eqb}
use Rattle.std.specs.Prelude.{◌≤◌, ◌+◌, Option, Some}
use Rattle.c_rules.specs.Places.{Places, from_on, kept_places, kept_count, place}
use Rattle.calc_core.specs.Ends.{lift, under, after_one}
use Rattle.k_terms.specs.K.{KTy, KTys, TKInt, TKVar, TKTuple, TKCode, TKExists, TKRef, NoKTys, MoreKTys, KVal, KVar}
use Rattle.k_terms.specs.K.{KInt, KTuple, KCode, KVals, NoKVals, MoreKVals, KDecl, KName, KProj, KArith, KPack}
use Rattle.k_terms.specs.K.{KUnpack, KCell, KGet, KSet, KTm, KLet, KCall, KIf, KHalt, kcount, kren, krens_scope}
use Rattle.k_terms.specs.K.{kargs_onto, kbody_scope, opens, scope_more}
use Rattle.c_rules.specs.Free.{tfree, tfrees, tfree_v, tfree_vs, tfree_d, tfree_t, occurs_v, occurs_vs}
use Rattle.c_rules.specs.Free.{occurs_d, occurs_t}
use Rattle.k_terms.specs.Types.{kd_type}
use Rattle.c_terms.specs.C.{CTy, CTys, TCVar, TCTuple, TCCode, NoCTys, MoreCTys, CVal, CVar, CTuple}
use Rattle.c_terms.specs.C.{NoCVals, MoreCVals, CTm, ccount, CVals}
use Rattle.k_terms.specs.Typing.{KIns, KTyped, kscons, ksub, ksubs, knames, KAt}
use Rattle.c_terms.specs.Typing.{CAt, cup, csubs, scons, names, cargs_onto, crens_scope}
use Rattle.c_rules.specs.Close.{Scope, ctype, ctypes, rank, picked_tvars, pick_type, picked_types, picked, tfree_kept}
use Rattle.c_rules.specs.Close.{keeps, uses, named, tkeeps, env_type, closure, outside, inner, rebuilt, projections}
use Rattle.c_rules.specs.Close.{closed_args, closed_code, with_decl, in_call, no_scope, close_v, close_vs, close_d}
use Rattle.c_rules.specs.Close.{close_t}
use Rattle.c_rules.specs.Close.{with_var, open_if}
use Rattle.c_rules.specs.Close.{close_of, var_value, pick_one}
use Rattle.c_laws.proofs.Envs.{or_left, or_right}
use Rattle.c_laws.proofs.Types.{gen_ctype, scons_gen, under_lift, cup_under, cup_lift, sub_ctypes, picked_names}
use Rattle.c_laws.proofs.Types.{kept_name, picked_count}
use Rattle.c_laws.proofs.TypeEnvs.{AgreeT, SameLength, ScopeIn, same_length, keep_type, kept_types, onto_kept, tsize}
use Rattle.c_laws.proofs.TypeEnvs.{kept_tsize, kept_ccount, at_append, at_onto, gdrop, gdrop_append, kept_agreeT}
use Rattle.c_laws.proofs.TypeEnvs.{ctypes_of, glength, kargs_append, cargs_of, kargs_length, args_agreeT, CVarAt}
use Rattle.c_laws.proofs.TypeEnvs.{tdrop}
use Rattle.c_laws.proofs.TypeEnvs.{tdrop_step}
use Rattle.c_laws.proofs.Ranges.{or_split, lift_lt, under_lt, in_kren, scope_in_kren, scope_in_args, in_ctype}
use Rattle.c_laws.proofs.Ranges.{in_ctypes}
use Rattle.c_laws.proofs.Ranges.{kept_lt, rank_lt, tfree_back, kept_back, lift_back, kept_args, v_range}
use Rattle.k_terms.proofs.Types.{d_type}
use Rattle.c_laws.proofs.Ranges.{t_range}
use Rattle.c_laws.proofs.Meaning.{ctypes_count}
use Rattle.k_terms.specs.Each.{KAll, KHasWith, KHaveWith, KGivesWith, KTypedWith}
use Rattle.c_terms.specs.Each.{CAll, CHasWith, CHaveWith, CGivesWith, CTypedWith, CProp}
use Rattle.k_terms.proofs.Each.{plain_v, plain_d, plain_t}
use Rattle.c_laws.proofs.Kept.{Have, HaveAll, IsKept, picked_tvars_all, rank_le, lift_le, lift_first}
use Rattle.c_laws.proofs.Fitting.{Fits, fewer, in_picked, in_picked_tvars, sub_picked, cup_env, fits_let, fits_call}
use Rattle.c_laws.proofs.Fitting.{field_has, call_types}
use Rattle.calc_core.proofs.Lifts.{lift_suc, lift_zero}
use Rattle.std.proofs.lemmas.Bool.{and_parts as and_split}

after_more : (k : Bool) (n : ℕ) → n ≤ after_one k n
after_more true n = omega arith
after_more false n = omega arith

opens_close : (s : Scope) (d : KDecl) → opens d ≡ opens (close_d s d)
opens_close s (KName v) = refl
opens_close s (KProj i v) = refl
opens_close s (KArith op v w) = refl
opens_close s (KPack h v t) = refl
opens_close s (KUnpack v) = refl
opens_close s (KCell v) = refl
opens_close s (KGet v) = refl
opens_close s (KSet v w) = refl

module _ (L : ℕ → Type 0) (S : KTy → Type 0) (M : ℕ → Type 0) (Q : CProp) (kp : IsKept L S M Q) where
  abbrev P : ℕ → KTy → Type 0
  P n t = L n × S t

  all_q : (n : ℕ) (ts : KTys) (r : ℕ → ℕ) → M n → HaveAll S ts → CAll Q n (ctypes r ts)
  all_q n NoKTys r l x = tt
  all_q n (MoreKTys t ts) r l x = (kp.type n t r l x.0, all_q n ts r l x.1)

  have_ren : (g : List KTy) (r : ℕ → ℕ) → Have S g → Have S (krens_scope r g)
  have_ren [] r h = tt
  have_ren (t ∷ g) r h = (kp.ren t r h.0, have_ren g r h.1)

  have_args : (ts : KTys) (g : List KTy) → HaveAll S ts → Have S g → Have S (kargs_onto ts g)
  have_args NoKTys g x h = h
  have_args (MoreKTys t ts) g x h = have_args ts (t ∷ g) x.1 (x.0, h)

  var_hasP : (n : ℕ) (p : Option ℕ) (t : CTy) (cg : List CTy) → Q n t → CVarAt p t cg → CHasWith Q n cg (var_value p) t
  var_hasP n None t cg q h = absurd h
  var_hasP n (Some j) t cg q h = (q, h)

  agreeP_at : (n : ℕ) (live : ℕ → Bool) (ps : Places) (g : List KTy) (r : ℕ → ℕ) (cg : List CTy) (i : ℕ) (t : KTy) →
      Q n (ctype r t) → AgreeT live ps g r cg → live i ≡ true → KAt g i t →
      CHasWith Q n cg (var_value (place ps i)) (ctype r t)
  agreeP_at n live [] [] r cg i t q h e a = absurd a
  agreeP_at n live [] (u ∷ g) r cg i t q h e a = absurd h
  agreeP_at n live (p ∷ ps) [] r cg i t q h e a = absurd a
  agreeP_at n live (p ∷ ps) (u ∷ g) r cg zero t q h e a =
      var_hasP n p (ctype r t) cg q (subst (λ x. CVarAt p (ctype r x) cg) (sym a) (h.0 e))
  agreeP_at n live (p ∷ ps) (u ∷ g) r cg (suc i) t q h e a = agreeP_at n (λ j. live (suc j)) ps g r cg i t q h.1 e a

  picked_stepP : (n : ℕ) (cg : List CTy) (k : Bool) (p : Option ℕ) (t : CTy) (vs : CVals) (ts : CTys) → Q n t →
      (k ≡ true → CVarAt p t cg) → CHaveWith Q n cg vs ts → CHaveWith Q n cg (pick_one k p vs) (pick_type k t ts)
  picked_stepP n cg true p t vs ts q h r = (t, ts, refl, var_hasP n p t cg q (h refl), r)
  picked_stepP n cg false p t vs ts q h r = r

  picked_haveP : (n : ℕ) (cg : List CTy) (keep : ℕ → Bool) (ps : Places) (g : List KTy) (r : ℕ → ℕ) (vs : CVals)
      (ts : CTys) → M n → Have S g → AgreeT keep ps g r cg → CHaveWith Q n cg vs ts →
      CHaveWith Q n cg (picked keep ps vs) (picked_types keep (ctype r) g ts)
  picked_haveP n cg keep [] [] r vs ts l s h q = q
  picked_haveP n cg keep [] (t ∷ g) r vs ts l s h q = absurd h
  picked_haveP n cg keep (p ∷ ps) [] r vs ts l s h q = absurd h
  picked_haveP n cg keep (p ∷ ps) (t ∷ g) r vs ts l s h q =
      picked_haveP n cg (λ i. keep (suc i)) ps g r (pick_one (keep 0) p vs) (pick_type (keep 0) (ctype r t) ts) l s.1
      h.1 (picked_stepP n cg (keep 0) p (ctype r t) vs ts (kp.type n t r l s.0) h.0 q)

  projectionsP : (n : ℕ) (rest us : CTys) (j e : ℕ) (t : CTm) (cg : List CTy) → Q n (TCTuple us) → CAll Q n rest →
      CAt cg e (TCTuple us) → tdrop j us ≡ rest → CTypedWith Q n (cargs_onto rest cg) t →
      CTypedWith Q n cg (projections (ccount rest) (suc j) e t)
  projectionsP n NoCTys us j e t cg qu qs h d q = q
  projectionsP n (MoreCTys x rest) us j e t cg qu qs h d q =
      let p = tdrop_step j us x rest d in
      (x, (qs.0, us, (qu, h), p.0), projectionsP n rest us (suc j) (suc e) t (x ∷ cg) qu qs.1 h p.1 q)

  kept_all : (n : ℕ) (keep : ℕ → Bool) (g : List KTy) (r : ℕ → ℕ) (acc : CTys) → M n → Have S g → CAll Q n acc →
      CAll Q n (picked_types keep (ctype r) g acc)
  kept_all n keep [] r acc l s h = h
  kept_all n keep (t ∷ g) r acc l s h = kept_all n (λ i. keep (suc i)) g r _ l s.1 (pick (keep 0))
    where
      pick : (k : Bool) → CAll Q n (pick_type k (ctype r t) acc)
      pick true = (kp.type n t r l s.0, h)
      pick false = h

  -- a closure has the translated type of its code
  closure_has : (s : Scope) (owes : ℕ) (args : KTys) (body : KTm) (r : ℕ → ℕ) (n : ℕ) (cg : List CTy)
      (code env : CVal) → M n → L (lift owes s.tcount) → S (TKCode owes args) → Have S s.types →
      ((j : ℕ) → tkeeps s.types owes args body j ≡ true → r j < n) →
      ((j : ℕ) → tkeeps s.types owes args body j ≡ true → j < s.tcount) →
      CHasWith Q n cg code
      (TCCode (lift owes (rank (tkeeps s.types owes args body) s.tcount)) (closed_args s owes args body)) →
      CHasWith Q n cg env (env_type r args body s.types) →
      CHasWith Q n cg (closure s owes args body r code env) (ctype r (TKCode owes args))
  closure_has s owes args body r n cg code env ln lm so sm below range hc he = (
    kp.type n (TKCode owes args) r ln so,
    _,
    refl,
    refl,
    in_picked (keeps args body) s.types r n NoCTys (λ j e. below j (of_types j e)) tt,
    in_ctype (TKCode owes args) r n (λ j e. below j (of_args j e)),
    kp.env n r args body s.types ln sm,
    (
      subst (λ a. Q n (TCTuple (MoreCTys (TCCode owes a) (MoreCTys E NoCTys)))) (sym left)
          (kp.pair n owes owes (λ j. lift owes (r j)) r (under owes r) args body s.types ln
          (kp.fewer (lift owes s.tcount) owes (lift_first owes s.tcount) lm) so sm),
      _,
      refl,
      (
        _,
        _,
        refl,
        (
          subst (λ a. Q n (TCCode owes a)) (sym left)
              (kp.code n owes owes (λ j. lift owes (r j)) (under owes r) args body s.types ln
              (kp.fewer (lift owes s.tcount) owes (lift_first owes s.tcount) lm) so sm),
          owes,
          closed_args s owes args body,
          ap (TCCode owes) (left ∙ sym right),
          subst (λ k. CHasWith Q n cg code (TCCode (lift owes k) (closed_args s owes args body))) (sym count) hc,
          in_picked_tvars K r s.tcount n NoCTys below tt,
          picked_tvars_all Q n (λ i. kp.var n i ln) K r s.tcount NoCTys tt,
        ),
        (_, _, refl, he, refl),
      ),
    ),
  )
    where
      K : ℕ → Bool
      K = tkeeps s.types owes args body

      of_args : (j : ℕ) → tfrees (lift owes j) args ≡ true → K j ≡ true
      of_args j e =
          or_left (tfrees (lift owes j) args || tfree_t (lift owes j) body) _
          (or_left (tfrees (lift owes j) args) (tfree_t (lift owes j) body) e)

      of_types : (j : ℕ) → tfree_kept j (keeps args body) s.types ≡ true → K j ≡ true
      of_types j e =
          or_right (tfrees (lift owes j) args || tfree_t (lift owes j) body) (tfree_kept j (keeps args body) s.types) e

      bs : CTys
      bs = picked_tvars K r s.tcount NoCTys

      count : ccount bs ≡ rank K s.tcount
      count = picked_count K r s.tcount NoCTys ∙ lift_zero (rank K s.tcount)

      name : (j : ℕ) → K j ≡ true → names bs TCVar (rank K j) ≡ TCVar (r j)
      name j e = ap (λ f. f (rank K j)) (picked_names K r s.tcount NoCTys TCVar)
          ∙ kept_name K r s.tcount j TCVar e (range j e)

      E : CTy
      E = env_type r args body s.types

      left : csubs (cup owes (scons E TCVar))
          (MoreCTys (TCVar (lift owes 0)) (ctypes (under owes (λ i. suc (r i))) args))
          ≡ MoreCTys (env_type (λ j. lift owes (r j)) args body s.types) (ctypes (under owes r) args)
      left = ap₂ MoreCTys (cup_env owes (scons E TCVar) 0 r args body s.types refl)
          (sub_ctypes args (cup owes (scons E TCVar)) (under owes (λ i. suc (r i))) (under owes r)
          (λ i e. cup_under owes (λ j. true) (scons E TCVar) (λ j. suc (r j)) r (λ j d. refl) i refl))

      right : csubs (cup owes (names bs TCVar)) (closed_args s owes args body)
          ≡ MoreCTys (env_type (λ j. lift owes (r j)) args body s.types) (ctypes (under owes r) args)
      right = ap₂ MoreCTys
          (ap TCTuple (sub_picked (keeps args body) s.types (cup owes (names bs TCVar)) (outside s owes args body)
          (λ j. lift owes (r j)) NoCTys
          (λ j e. cup_lift owes (names bs TCVar) (rank K j) (r j) (name j (of_types j e)))))
          (sub_ctypes args (cup owes (names bs TCVar)) (under owes (rank K)) (under owes r)
          (cup_under owes (λ i. tfrees i args) (names bs TCVar) (rank K) r (λ j e. name j (of_args j e))))

  good_named : (u : Bool) (v : CVal) (t : CTm) (n : ℕ) (x : CTy) (g cg : List CTy) → CHasWith Q n (g ++ cg) v x →
      CTypedWith Q n (keep_type u x g ++ cg) t → CTypedWith Q n (g ++ cg) (named u v t)
  good_named true v t n x g cg h q = (x, h, q)
  good_named false v t n x g cg h q = q

  -- the closed code has its type, if its body keeps types
  code_has : (s : Scope) (owes : ℕ) (args : KTys) (body : KTm) (t : CTm) (n : ℕ) (cg : List CTy) → M n →
      L (lift owes s.tcount) → S (TKCode owes args) → Have S s.types → ScopeIn s.tcount s.types →
      SameLength s.vars s.types → KIns (lift owes s.tcount) args →
      KTyped (lift owes s.tcount) (kbody_scope owes args s.types) body →
      ((j : ℕ) → tkeeps s.types owes args body j ≡ true → j < s.tcount) →
      ((dg : List CTy) →
      Fits (λ i. occurs_t i body) (λ j. tfree_t j body) (inner s owes args body)
      (lift owes (rank (tkeeps s.types owes args body) s.tcount)) dg →
      CTypedWith Q (lift owes (rank (tkeeps s.types owes args body) s.tcount)) dg t) →
      CHasWith Q n cg (closed_code s owes args body t)
      (TCCode (lift owes (rank (tkeeps s.types owes args body) s.tcount)) (closed_args s owes args body))
  code_has s owes args body t n cg ln lm so sm sc same hargs hbody range ih = (
    kp.code n m owes out own args body s.types ln (kp.fewer (lift owes s.tcount) m mle lm) so sm,
    refl,
    (
      in_picked keep s.types out m NoCTys (λ j e. lift_lt owes (rank K j) (rank K s.tcount) (ranked j (of_types j e)))
          tt,
      in_ctypes args own m
          (under_lt owes (λ i. tfrees i args) (rank K) (rank K s.tcount) (λ j e. ranked j (of_args j e))),
    ),
    (kp.env m out args body s.types ml sm, all_q m args own ml (kp.args owes args so)),
    subst (λ k. CTypedWith Q m cg0 (projections k 1 (kcount args) (named (uses args body 0) (rebuilt s owes args body)
        t)))
        count
        (projectionsP m us us 0 (kcount args) (named (uses args body 0) (rebuilt s owes args body) t) cg0
        (kp.env m out args body s.types ml sm) (kept_all m keep s.types out NoCTys ml sm tt) at_env refl
        (subst (λ g. CTypedWith Q m g (named (uses args body 0) (rebuilt s owes args body) t))
        (sym (onto_kept keep (ctype out) s.types NoCTys cg0))
        (good_named (uses args body 0) (rebuilt s owes args body) t m (ctype out (TKCode owes args))
        (kept_types keep (ctype out) s.types) cg0
        (closure_has s owes args body out m cg1 (CVar (lift kc (suc (kcount args)))) (CVar (lift kc (kcount args)))
        ml lm so sm (λ j e. lift_lt owes (rank K j) (rank K s.tcount) (ranked j e)) range
        (kp.code m m owes out own args body s.types ml (kp.fewer (lift owes s.tcount) m mle lm) so sm, code_at)
        (kp.env m out args body s.types ml sm, env_at)) (ih cg2 fits)))),
  )
    where
      K : ℕ → Bool
      K = tkeeps s.types owes args body

      keep : ℕ → Bool
      keep = keeps args body

      m : ℕ
      m = lift owes (rank K s.tcount)

      mle : lift owes (rank (tkeeps s.types owes args body) s.tcount) ≤ lift owes s.tcount
      mle = lift_le owes (rank K s.tcount) s.tcount (rank_le K s.tcount)

      ml : M (lift owes (rank (tkeeps s.types owes args body) s.tcount))
      ml = kp.more (lift owes s.tcount) (lift owes (rank K s.tcount)) (omega (arith, mle)) lm

      out : ℕ → ℕ
      out = outside s owes args body

      own : ℕ → ℕ
      own = under owes (rank K)

      kc : ℕ
      kc = kept_count keep s.vars

      us : CTys
      us = picked_types keep (ctype out) s.types NoCTys

      codeT : CTy
      codeT = TCCode m (closed_args s owes args body)

      base : List CTy
      base = TCTuple us ∷ codeT ∷ []

      cg0 : List CTy
      cg0 = cargs_onto (ctypes own args) base

      cg1 : List CTy
      cg1 = kept_types keep (ctype out) s.types ++ cg0

      cg2 : List CTy
      cg2 = kept_types (uses args body) (ctype out) (TKCode owes args ∷ s.types) ++ cg0

      of_args : (j : ℕ) → tfrees (lift owes j) args ≡ true → K j ≡ true
      of_args j e =
          or_left (tfrees (lift owes j) args || tfree_t (lift owes j) body) _
          (or_left (tfrees (lift owes j) args) (tfree_t (lift owes j) body) e)

      of_body : (j : ℕ) → tfree_t (lift owes j) body ≡ true → K j ≡ true
      of_body j e =
          or_left (tfrees (lift owes j) args || tfree_t (lift owes j) body) _
          (or_right (tfrees (lift owes j) args) (tfree_t (lift owes j) body) e)

      of_types : (j : ℕ) → tfree_kept j keep s.types ≡ true → K j ≡ true
      of_types j e = or_right (tfrees (lift owes j) args || tfree_t (lift owes j) body) (tfree_kept j keep s.types) e

      ranked : (j : ℕ) → K j ≡ true → rank K j < rank K s.tcount
      ranked j e = rank_lt K j s.tcount e (range j e)

      count : ccount us ≡ kc
      count = omega (arith, kept_ccount keep (ctype out) s.vars s.types NoCTys same)

      kc-size : kc ≡ tsize (kept_types keep (ctype out) s.types)
      kc-size = kept_tsize keep (ctype out) s.vars s.types same

      at_cg0 : (i : ℕ) (x : CTy) → CAt base i x → CAt cg0 (lift (kcount args) i) x
      at_cg0 i x h = subst (λ k. CAt cg0 (lift k i) x) (ctypes_count own args) (at_onto (ctypes own args) base i x h)

      at_env : CAt cg0 (kcount args) (TCTuple us)
      at_env = subst (λ k. CAt cg0 k (TCTuple us)) (lift_zero (kcount args)) (at_cg0 0 (TCTuple us) refl)

      at_code : CAt cg0 (suc (kcount args)) codeT
      at_code = subst (λ k. CAt cg0 k codeT) (lift_suc (kcount args) 0 ∙ ap suc (lift_zero (kcount args)))
          (at_cg0 1 codeT refl)

      past : (i : ℕ) (x : CTy) → CAt cg0 i x → CAt cg1 (lift kc i) x
      past i x h =
          subst (λ k. CAt cg1 (lift k i) x) (sym kc-size) (at_append (kept_types keep (ctype out) s.types) cg0 i x h)

      env_at : CAt cg1 (lift kc (kcount args)) (TCTuple us)
      env_at = past (kcount args) (TCTuple us) at_env

      code_at : CAt cg1 (lift kc (suc (kcount args))) codeT
      code_at = past (suc (kcount args)) codeT at_code

      self : KTy
      self = kren (lift owes) (TKCode owes args)

      G : List KTy
      G = self ∷ krens_scope (lift owes) s.types

      n-args : glength (kargs_onto args []) ≡ kcount args
      n-args = omega (arith, kargs_length args [])

      k2 : ℕ
      k2 = kept_count (uses args body) (None ∷ s.vars)

      ps : Places
      ps = kept_places 0 (uses args body) (None ∷ s.vars)

      dropped : gdrop k2 cg2 ≡ ctypes_of own (kargs_onto args []) ++ base
      dropped = ap (λ k. gdrop k cg2)
          (kept_tsize (uses args body) (ctype out) (None ∷ s.vars) (TKCode owes args ∷ s.types) same)
          ∙ gdrop_append (kept_types (uses args body) (ctype out) (TKCode owes args ∷ s.types)) cg0
          ∙ cargs_of own args [] base

      inside : AgreeT (uses args body) ps G own cg2
      inside = kept_agreeT (uses args body) (None ∷ s.vars) (TKCode owes args ∷ s.types) (lift owes) own out cg0 cg2 0
          same (under_lift owes (rank K)) refl

      agreed : AgreeT (λ i. occurs_t i body) (from_on k2 (kcount args) ps) (kargs_onto args G) own cg2
      agreed = subst₂ (λ k g. AgreeT (λ i. occurs_t i body) (from_on k2 k ps) g own cg2) n-args
          (sym (kargs_append args [] G))
          (args_agreeT (λ i. occurs_t i body) (kargs_onto args []) G own base cg2 k2 ps dropped
          (subst (λ k. AgreeT (λ i. occurs_t (lift k i) body) ps G own cg2) (sym n-args) inside))

      needed : (j : ℕ) →
          tfree_t (lift owes j) body || tfree_kept (lift owes j) (λ i. occurs_t i body) (kargs_onto args G) ≡ true →
          K j ≡ true
      needed j e =
          or_split (tfree_t (lift owes j) body) (tfree_kept (lift owes j) (λ i. occurs_t i body) (kargs_onto args G))
          (of_body j)
          (λ d. or_split (tfrees (lift owes j) args)
          (tfree_kept (lift owes j) (λ i. occurs_t (lift (kcount args) i) body) G) (of_args j)
          (λ c. or_split (occurs_t (lift (kcount args) 0) body && tfree (lift owes j) self)
          (tfree_kept (lift owes j) (λ i. occurs_t (lift (kcount args) (suc i)) body)
          (krens_scope (lift owes) s.types))
          (λ b. of_args j
          (tfree_back (TKCode owes args) (lift owes) j (lift owes j) (λ i. lift_back owes i j)
          (and_split (occurs_t (lift (kcount args) 0) body) (tfree (lift owes j) self) b).1))
          (λ b. of_types j
          (kept_back s.types (λ i. occurs_t (lift (kcount args) (suc i)) body) (lift owes) j (lift owes j)
          (λ i. lift_back owes i j) b))
          c)
          (kept_args args G (λ i. occurs_t i body) (lift owes j) d)) e

      fits : Fits (λ i. occurs_t i body) (λ j. tfree_t j body) (inner s owes args body) m cg2
      fits = record {
        scoped = scope_in_args args G (lift owes s.tcount) hargs (
          in_kren (TKCode owes args) (lift owes) s.tcount (lift owes s.tcount) (λ i h. lift_lt owes i s.tcount h)
              hargs,
          scope_in_kren s.types (lift owes) s.tcount (lift owes s.tcount) (λ i h. lift_lt owes i s.tcount h)
              sc,
        );
        agree = agreed;
        below = under_lt owes (λ j. tfree_t j body || tfree_kept j (λ i. occurs_t i body) (kargs_onto args G)) (rank K)
            (rank K s.tcount) (λ j e. ranked j (needed j e));
      }

  -- the property of the type given
  type_of : (v : KVal) (n : ℕ) (g : List KTy) (t : KTy) → KHasWith P n g v t → P n t
  type_of (KVar i) n g t h = h.0
  type_of (KInt m) n g t h = h.0
  type_of (KTuple vs) n g t h = h.0
  type_of (KCode owes args body) n g t h = h.0

  given : (d : KDecl) (n : ℕ) (g : List KTy) (t : KTy) → KGivesWith P n g d t → S t
  given (KName v) n g t h = (type_of v n g t h).1
  given (KProj i v) n g t h = h.0.1
  given (KArith op v w) n g t h = h.0.1
  given (KPack hid v shape) n g t h = h.0.1
  given (KUnpack v) n g t h = h.0.1
  given (KCell v) n g t h = h.0.1
  given (KGet v) n g t h = h.0.1
  given (KSet v w) n g t h = h.0.1

  -- the names in scope
  names_in : (t : KTm) (n : ℕ) (g : List KTy) → KTypedWith P n g t → L n
  names_in (KLet d t) n g h =
      kp.fewer (after_one (opens d) n) n (after_more (opens d) n)
      (names_in t (after_one (opens d) n) (h.0 ∷ scope_more (opens d) g) h.2)
  names_in (KCall f ts vs) n g h = (type_of f n g (TKCode (kcount ts) h.0) h.1).0
  names_in (KIf v t u) n g h = (type_of v n g TKInt h.0).0
  names_in (KHalt v) n g h = (type_of v n g TKInt h).0

  all_ctypes : (n m : ℕ) (ts : KTys) (r : ℕ → ℕ) → M n → KAll P m ts → CAll Q n (ctypes r ts)
  all_ctypes n m NoKTys r l h = tt
  all_ctypes n m (MoreKTys t ts) r l h = (kp.type n t r l h.0.1, all_ctypes n m ts r l h.1)

  -- what follows a declaration
  abbrev Keeps : KTm → Type 0
  Keeps t = (s : Scope) (n : ℕ) (cg : List CTy) → n ≤ s.tcount → Have S s.types →
      Fits (λ i. occurs_t i t) (λ j. tfree_t j t) s n cg → KTypedWith P s.tcount s.types t →
      CTypedWith Q n cg (close_t s t)

  rest_of : (t : KTm) → Keeps t → (b : Bool) (u : KTy) (s : Scope) (n : ℕ) (cg : List CTy) → n ≤ s.tcount →
      Have S s.types → S u →
      Fits (λ i. occurs_t i t) (λ j. tfree_t j t) (with_var u (open_if b s)) (after_one b n)
      (ctype (open_if b s).tvar u ∷ scope_more b cg) →
      KTypedWith P (after_one b s.tcount) (u ∷ scope_more b s.types) t →
      CTypedWith Q (after_one b n) (ctype (open_if b s).tvar u ∷ scope_more b cg) (close_t (with_var u (open_if b s)) t)
  rest_of t go true u s n cg l sm x f h =
      go (with_var u (open_if true s)) (suc n) _ (omega (arith, l)) (x, have_ren s.types suc sm) f h
  rest_of t go false u s n cg l sm x f h = go (with_var u (open_if false s)) n _ l (x, sm) f h

  first_of_two : (v w : KVal) (s : Scope) (n : ℕ) (cg : List CTy) →
      Fits (λ i. occurs_v i v || occurs_v i w) (λ j. tfree_v j v || tfree_v j w) s n cg →
      Fits (λ i. occurs_v i v) (λ j. tfree_v j v) s n cg
  first_of_two v w s n cg f = fewer _ _ _ _ s n cg (λ i. or_left (occurs_v i v) (occurs_v i w))
      (λ j. or_left (tfree_v j v) (tfree_v j w)) f

  second_of_two : (v w : KVal) (s : Scope) (n : ℕ) (cg : List CTy) →
      Fits (λ i. occurs_v i v || occurs_v i w) (λ j. tfree_v j v || tfree_v j w) s n cg →
      Fits (λ i. occurs_v i w) (λ j. tfree_v j w) s n cg
  second_of_two v w s n cg f = fewer _ _ _ _ s n cg (λ i. or_right (occurs_v i v) (occurs_v i w))
      (λ j. or_right (tfree_v j v) (tfree_v j w)) f

  mutual
    has_v : (v : KVal) (s : Scope) (n : ℕ) (cg : List CTy) (t : KTy) → n ≤ s.tcount + 1 → Have S s.types →
        Fits (λ i. occurs_v i v) (λ j. tfree_v j v) s n cg → KHasWith P s.tcount s.types v t →
        CHasWith Q n cg (close_v s v) (ctype s.tvar t)
    has_v (KVar i) s n cg t l sm f h =
        agreeP_at n (λ j. occurs_v j (KVar i)) s.vars s.types s.tvar cg i t
        (kp.type n t s.tvar (kp.more s.tcount n l h.0.0) h.0.1) f.agree (eq-eqb i i refl) h.1
    has_v (KInt m) s n cg t l sm f h = (kp.type n t s.tvar (kp.more s.tcount n l h.0.0) h.0.1, ap (ctype s.tvar) h.1)
    has_v (KTuple vs) s n cg t l sm f h = (
      kp.type n t s.tvar (kp.more s.tcount n l h.0.0) h.0.1,
      ctypes s.tvar h.1,
      ap (ctype s.tvar) h.2,
      have_vs vs s n cg h.1 l sm f h.3,
    )
    has_v (KCode owes args body) s n cg t l sm f h =
        let plain = plain_v P (KCode owes args body) s.tcount s.types t h in
        let range = λ (j : ℕ) (e : tkeeps s.types owes args body j ≡ true). or_split {P = j < s.tcount}
        (tfrees (lift owes j) args || tfree_t (lift owes j) body) (tfree_kept j (keeps args body) s.types)
        (λ d. v_range (KCode owes args body) s.tcount s.types t j plain d)
        (λ d. kept_lt s.types (keeps args body) s.tcount j f.scoped d) e in
        let ln : M n = kp.more s.tcount n l h.0.0 in
        let own : P s.tcount (TKCode owes args) = subst (P s.tcount) h.1 h.0 in
        let lm : L (lift owes s.tcount) = names_in body (lift owes s.tcount) (kbody_scope owes args s.types) h.4 in
        let inside : Have S (inner s owes args body).types =
        have_args args (kren (lift owes) (TKCode owes args) ∷ krens_scope (lift owes) s.types)
        (kp.args owes args own.1) (have_ren (TKCode owes args ∷ s.types) (lift owes) (own.1, sm)) in
        subst (λ x. CHasWith Q n cg (close_v s (KCode owes args body)) (ctype s.tvar x)) (sym h.1)
        (closure_has s owes args body s.tvar n cg
        (closed_code s owes args body (close_t (inner s owes args body) body))
        (CTuple (picked (keeps args body) s.vars NoCVals)) ln lm own.1 sm f.below range
        (code_has s owes args body (close_t (inner s owes args body) body) n cg ln lm own.1 sm f.scoped
        (same_length (keeps args body) s.vars s.types s.tvar cg f.agree) h.2 (plain_t P body _ _ h.4) range
        (λ dg k. good_t body (inner s owes args body) (lift owes (rank (tkeeps s.types owes args body) s.tcount)) dg
        (lift_le owes (rank (tkeeps s.types owes args body) s.tcount) s.tcount
        (rank_le (tkeeps s.types owes args body) s.tcount)) inside k h.4)) (
          kp.env n s.tvar args body s.types ln sm,
          _,
          refl,
          picked_haveP n cg (keeps args body) s.vars s.types s.tvar NoCVals NoCTys ln sm f.agree refl,
        ))

    have_vs : (vs : KVals) (s : Scope) (n : ℕ) (cg : List CTy) (ts : KTys) → n ≤ s.tcount + 1 → Have S s.types →
        Fits (λ i. occurs_vs i vs) (λ j. tfree_vs j vs) s n cg → KHaveWith P s.tcount s.types vs ts →
        CHaveWith Q n cg (close_vs s vs) (ctypes s.tvar ts)
    have_vs NoKVals s n cg ts l sm f h = ap (ctypes s.tvar) h
    have_vs (MoreKVals v vs) s n cg ts l sm f h = (
      ctype s.tvar h.0,
      ctypes s.tvar h.1,
      ap (ctypes s.tvar) h.2,
      has_v v s n cg h.0 l sm
          (fewer _ _ _ _ s n cg (λ i. or_left (occurs_v i v) (occurs_vs i vs))
          (λ j. or_left (tfree_v j v) (tfree_vs j vs)) f) h.3,
      have_vs vs s n cg h.1 l sm
          (fewer _ _ _ _ s n cg (λ i. or_right (occurs_v i v) (occurs_vs i vs))
          (λ j. or_right (tfree_v j v) (tfree_vs j vs)) f) h.4,
    )

    gives_d : (d : KDecl) (s : Scope) (n : ℕ) (cg : List CTy) (t : KTy) → n ≤ s.tcount → Have S s.types →
        Fits (λ i. occurs_d i d) (λ j. tfree_d j d) s n cg → KGivesWith P s.tcount s.types d t →
        CGivesWith Q n cg (close_d s d) (ctype (open_if (opens d) s).tvar t)
    gives_d (KName v) s n cg t l sm f h = has_v v s n cg t (omega (arith, l)) sm f h
    gives_d (KProj i v) s n cg t l sm f h = (
      kp.type n t s.tvar (kp.more s.tcount n (omega (arith, l)) h.0.0) h.0.1,
      ctypes s.tvar h.1,
      has_v v s n cg (TKTuple h.1) (omega (arith, l)) sm f h.2,
      field_has i h.1 t s.tvar h.3,
    )
    gives_d (KArith op v w) s n cg t l sm f h = (
      kp.type n t s.tvar (kp.more s.tcount n (omega (arith, l)) h.0.0) h.0.1,
      ap (ctype s.tvar) h.1,
      has_v v s n cg TKInt (omega (arith, l)) sm (first_of_two v w s n cg f) h.2,
      has_v w s n cg TKInt (omega (arith, l)) sm (second_of_two v w s n cg f) h.3,
    )
    gives_d (KPack hid v shape) s n cg t l sm f h =
        let r = s.tvar in
        let ln : M n = kp.more s.tcount n (omega (arith, l)) h.0.0 in
        let of_d = λ (j : ℕ) (e : tfree j hid || (tfree_v j v || tfree j shape) ≡ true).
        f.below j (or_left (tfree j hid || (tfree_v j v || tfree j shape)) _ e) in (
          kp.type n t r ln h.0.1,
          ctype (under 1 r) h.2,
          ap (ctype r) h.3,
          ap (ctype r) h.4,
          in_ctype hid r n (λ j e. of_d j (or_left (tfree j hid) (tfree_v j v || tfree j shape) e)),
          in_ctype shape r n
              (λ j e. of_d j
              (or_right (tfree j hid) (tfree_v j v || tfree j shape) (or_right (tfree_v j v) (tfree j shape) e))),
          kp.type n hid r ln h.1.1,
          subst (CHasWith Q n cg (close_v s v))
              (sym (gen_ctype h.2 (scons (ctype r hid) TCVar) (under 1 r) r (kscons hid TKVar)
              (scons_gen (ctype r hid) hid TCVar r r TKVar refl (λ i. refl))))
              (has_v v s n cg (ksub (kscons hid TKVar) h.2) (omega (arith, l)) sm
              (fewer _ _ _ _ s n cg (λ i e. e)
              (λ j e. or_right (tfree j hid) (tfree_v j v || tfree j shape) (or_left (tfree_v j v) (tfree j shape) e))
              f) h.7),
        )
    gives_d (KUnpack v) s n cg t l sm f h = (
      kp.type (suc n) t (under 1 s.tvar) (kp.more (suc s.tcount) (suc n) (omega (arith, l)) h.0.0) h.0.1,
      has_v v s n cg (TKExists t) (omega (arith, l)) sm f h.1,
    )
    gives_d (KCell v) s n cg t l sm f h = (
      kp.type n t s.tvar (kp.more s.tcount n (omega (arith, l)) h.0.0) h.0.1,
      ctype s.tvar h.1,
      ap (ctype s.tvar) h.2,
      has_v v s n cg h.1 (omega (arith, l)) sm f h.3,
    )
    gives_d (KGet v) s n cg t l sm f h = (
      kp.type n t s.tvar (kp.more s.tcount n (omega (arith, l)) h.0.0) h.0.1,
      has_v v s n cg (TKRef t) (omega (arith, l)) sm f h.1,
    )
    gives_d (KSet v w) s n cg t l sm f h = (
      kp.type n t s.tvar (kp.more s.tcount n (omega (arith, l)) h.0.0) h.0.1,
      ctype s.tvar h.1,
      ap (ctype s.tvar) h.2,
      has_v v s n cg (TKRef h.1) (omega (arith, l)) sm (first_of_two v w s n cg f) h.3,
      has_v w s n cg h.1 (omega (arith, l)) sm (second_of_two v w s n cg f) h.4,
    )

    good_t : (t : KTm) (s : Scope) (n : ℕ) (cg : List CTy) → n ≤ s.tcount → Have S s.types →
        Fits (λ i. occurs_t i t) (λ j. tfree_t j t) s n cg → KTypedWith P s.tcount s.types t → CTypedWith Q n cg
        (close_t s t)
    good_t (KLet d t) s n cg l sm f h =
        let pd = plain_d P d s.tcount s.types h.0 h.1 in
        let e = d_type d s.tcount s.types h.0 pd in
        let r = (open_if (opens d) s).tvar in (
          ctype r (kd_type s.types d),
          subst (λ u. CGivesWith Q n cg (close_d s d) (ctype r u)) (sym e)
              (gives_d d s n cg h.0 l sm
              (fewer _ _ _ _ s n cg (λ i. or_left (occurs_d i d) (occurs_t (suc i) t))
              (λ j. or_left (tfree_d j d) (tfree_t (after_one (opens d) j) t)) f) h.1),
          subst (λ b. CTypedWith Q (after_one b n) (ctype r (kd_type s.types d) ∷ scope_more b cg)
              (close_t (with_decl d s) t)) (opens_close s d)
              (rest_of t (good_t t) (opens d) (kd_type s.types d) s n cg l sm
              (subst S (sym e) (given d s.tcount s.types h.0 h.1)) (fits_let d t s n cg h.0 pd f)
              (subst (λ x. KTypedWith P (after_one (opens d) s.tcount) (x ∷ scope_more (opens d) s.types) t) (sym e)
              h.2)),
        )
    good_t (KCall g ts vs) s n cg l sm f h =
        let r = s.tvar in
        let us' = MoreCTys (TCVar (lift (kcount ts) 0)) (ctypes (under (kcount ts) (λ i. suc (r i))) h.0) in
        let c1 = TCCode (kcount ts) us' in
        let fields = MoreCTys c1 (MoreCTys (TCVar 0) NoCTys) in
        let fs = fewer _ _ _ _ s n cg (λ i. or_right (occurs_v i g) (occurs_vs i vs))
        (λ j e. or_right (tfree_v j g) (tfrees j ts || tfree_vs j vs) (or_right (tfrees j ts) (tfree_vs j vs) e))
        f in
        let own = type_of g s.tcount s.types (TKCode (kcount ts) h.0) h.1 in
        let ln : M (suc n) = kp.more s.tcount (suc n) (omega (arith, l)) own.0 in
        let cnt : TCCode (ccount (ctypes (λ i. suc (r i)) ts)) us' ≡ c1 =
        ap (λ k. TCCode k us') (ctypes_count (λ i. suc (r i)) ts) in
        let pair_ok : Q (suc n) (TCTuple fields) =
        kp.called_pair (suc n) (kcount ts) (lift (kcount ts) 0) (under (kcount ts) (λ i. suc (r i))) h.0 ln
        own.1 in
        let code_ok : Q (suc n) c1 =
        kp.called (suc n) (kcount ts) (lift (kcount ts) 0) (under (kcount ts) (λ i. suc (r i))) h.0 ln own.1 in (
          TCTuple fields,
          (
            pair_ok,
            has_v g s n cg (TKCode (kcount ts) h.0) (omega (arith, l)) sm
                (fewer _ _ _ _ s n cg (λ i. or_left (occurs_v i g) (occurs_vs i vs))
                (λ j. or_left (tfree_v j g) (tfrees j ts || tfree_vs j vs)) f) h.1,
          ),
          (
            c1,
            (code_ok, fields, (pair_ok, refl), refl),
            (
              TCVar 0,
              (kp.var (suc n) 0 ln, fields, (pair_ok, refl), refl),
              (
                us',
                (subst (Q (suc n)) (sym cnt) code_ok, cnt),
                in_ctypes ts (λ i. suc (r i)) (suc n)
                    (λ j e. let b =
                    f.below j (or_left (tfree_v j g || (tfrees j ts || tfree_vs j vs)) _
                    (or_right (tfree_v j g) (tfrees j ts || tfree_vs j vs)
                    (or_left (tfrees j ts) (tfree_vs j vs) e))) in omega (arith, b)),
                all_ctypes (suc n) s.tcount ts (λ i. suc (r i)) ln h.3,
                subst (λ z. CHaveWith Q (suc n) (TCVar 0 ∷ c1 ∷ TCTuple fields ∷ crens_scope suc cg)
                    (MoreCVals (CVar 0) (close_vs (in_call s) vs)) z) (sym (call_types r ts h.0)) (
                      TCVar 0,
                      ctypes (λ i. suc (r i)) (ksubs (knames ts TKVar) h.0),
                      refl,
                      (kp.var (suc n) 0 ln, refl),
                      have_vs vs (in_call s) (suc n) _ (ksubs (knames ts TKVar) h.0) (omega (arith, l)) sm
                          (fits_call (λ i. occurs_vs i vs) (λ j. tfree_vs j vs) s n cg (TCTuple fields) c1 (TCVar 0) fs)
                          h.4,
                    ),
              ),
            ),
          ),
        )
    good_t (KIf v t u) s n cg l sm f h = (
      has_v v s n cg TKInt (omega (arith, l)) sm
          (fewer _ _ _ _ s n cg (λ i. or_left (occurs_v i v) (occurs_t i t || occurs_t i u))
          (λ j. or_left (tfree_v j v) (tfree_t j t || tfree_t j u)) f) h.0,
      good_t t s n cg l sm
          (fewer _ _ _ _ s n cg
          (λ i e. or_right (occurs_v i v) (occurs_t i t || occurs_t i u) (or_left (occurs_t i t) (occurs_t i u) e))
          (λ j e. or_right (tfree_v j v) (tfree_t j t || tfree_t j u) (or_left (tfree_t j t) (tfree_t j u) e)) f) h.1,
      good_t u s n cg l sm
          (fewer _ _ _ _ s n cg
          (λ i e. or_right (occurs_v i v) (occurs_t i t || occurs_t i u) (or_right (occurs_t i t) (occurs_t i u) e))
          (λ j e. or_right (tfree_v j v) (tfree_t j t || tfree_t j u) (or_right (tfree_t j t) (tfree_t j u) e)) f) h.2,
    )
    good_t (KHalt v) s n cg l sm f h = has_v v s n cg TKInt (omega (arith, l)) sm f h

  pub kept_types_of : (t : KTm) → KTypedWith P 0 [] t → CTypedWith Q 0 [] (close_of t)
  kept_types_of t h =
      good_t t no_scope 0 [] (omega arith) tt (record { scoped = tt; agree = tt; below = λ j e. closed j e }) h
    where
      closed : (j : ℕ) → tfree_t j t || false ≡ true → j < 0
      closed j e =
          or_split {P = j < 0} (tfree_t j t) false (λ d. t_range t 0 [] j (plain_t P t 0 [] h) d) (λ d. absurd cc) e
