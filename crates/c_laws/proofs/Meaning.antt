-- The program after the conversion does what the program before it does.
use Rattle.std.proofs.Common.{◌≡◌, ℕ, zero, suc, Bool, true, false, ◌||◌, nat_eq, ◌&&◌, [], ◌∷◌, Option, Some, None}
use Rattle.std.proofs.Common.{refl, sym, ap, ◌∙◌, subst, subst₂, ap₂, arith, eq-eqb, eqb-true}
use Rattle.std.proofs.Math.Dec.{eqb-suc-suc}
use Rattle.idx_core.specs.Arith.{is_zero}
use Rattle.calc_core.specs.Ends.{if_fits, pick, lift, Result, enters}
use Rattle.idx_core.specs.declared.arith.Op.{Op}
use Rattle.c_rules.specs.Places.{Places, further, place, from_on, kept_places, kept_count}
use Rattle.k_terms.specs.K.{KTys, NoKTys, MoreKTys, KVal, KVar, KInt, KTuple, KCode, KVals, NoKVals, MoreKVals, KDecl}
use Rattle.k_terms.specs.K.{KName, KProj, KArith, KPack, KUnpack, KCell, KGet, KSet, KTm, KLet, KCall, KIf, KHalt}
use Rattle.k_terms.specs.K.{kcount, kv_next, kd_next, kt_next, opens}
use Rattle.c_rules.specs.Free.{occurs_v, occurs_vs, occurs_d, occurs_t}
use Rattle.c_terms.specs.C.{NoCVals, CVal, CTm, ccount, cv_next, ct_next}
use Rattle.calc_core.specs.Words.{WInt, WTuple, WCode, WCell, NoWords, MoreWords, at, size, onto, field, project}
use Rattle.calc_core.specs.Words.{operate, held, hold, one_more, Made, Makes, Fails, given, get, set, with_value}
use Rattle.calc_core.specs.Words.{at_zero, halt_with}
use Rattle.k_terms.specs.Meaning.{KNumbered, KCodeAt, KWord, KWords, kv_value, kvs_value, kd_value, KEnter, kopen}
use Rattle.k_terms.specs.Meaning.{kterm, kenter, krun}
use Rattle.c_terms.specs.Meaning.{CNumbered, CWord, CWords, cv_value, cvs_value, cd_value, CEnter, copen, cterm}
use Rattle.c_terms.specs.Meaning.{center, crun}
use Rattle.c_rules.specs.Close.{Scope, ctypes, keeps, uses, named, inner, rebuilt, projections, closed_body}
use Rattle.c_rules.specs.Close.{closed_code}
use Rattle.c_rules.specs.Close.{no_scope, open_if, with_decl, in_call, close_v, close_vs, close_d, close_t, close_of}
use Rattle.c_laws.proofs.Rel.{Spans, Rel, Rels, RelKept, Agree}
use Rattle.k_terms.specs.Typing.{KTyped}
use Rattle.k_terms.specs.Laws.{NeverStuck}
use Rattle.c_laws.proofs.Envs.{cadd, cadd_size, cadd_kept, or_left, or_right, agree_at, agree_further, agree_fewer}
use Rattle.c_laws.proofs.Envs.{agree_spans, var_value_at, picks, rels_size, rels_onto, kept_size, kept_agree}
use Rattle.c_laws.proofs.Envs.{args_agree}
use Rattle.calc_core.proofs.Ends.{Fine, fine}
use Rattle.calc_core.proofs.WordLists.{join, without_first, onto_join, onto_onto, size_onto, at_onto, at_join}
use Rattle.calc_core.proofs.WordLists.{without_one_more, without_joined}
use Rattle.c_laws.proofs.Numbers.{v_next, d_next, t_next}
use Rattle.calc_core.proofs.Lifts.{lift_suc, lift_zero}

-- values
mutual
  rel_v : (v : KVal) (s : Scope) (b : ℕ) (env : KWords) (cenv : CWords) → Agree (λ i. occurs_v i v) s.vars env cenv →
      Rel (kv_value b v env) (cv_value b (close_v s v) cenv)
  rel_v (KVar i) s b env cenv h =
      subst (Rel (at env i)) (sym (var_value_at b (place s.vars i) cenv))
      (agree_at (λ j. nat_eq j i) s.vars env cenv i h (eq-eqb i i refl))
  rel_v (KInt n) s b env cenv h = refl
  rel_v (KTuple vs) s b env cenv h = (cvs_value b (close_vs s vs) cenv, refl, rel_vs vs s b env cenv h)
  rel_v (KCode owes args body) s b env cenv h =
      let p = picks (keeps args body) s.vars env cenv h in (
        s,
        p.0,
        ap (λ z.
            (WTuple (MoreWords
            (cv_value b (closed_code s owes args body (close_t (inner s owes args body) body)) NoWords)
            (MoreWords (WTuple z) NoWords)))) (p.2 _ NoCVals),
        agree_spans (keeps args body) s.vars env cenv h,
        p.1,
      )

  rel_vs : (vs : KVals) (s : Scope) (b : ℕ) (env : KWords) (cenv : CWords) →
      Agree (λ i. occurs_vs i vs) s.vars env cenv → Rels (kvs_value b vs env) (cvs_value b (close_vs s vs) cenv)
  rel_vs NoKVals s b env cenv h = refl
  rel_vs (MoreKVals v vs) s b env cenv h = (
    cv_value b (close_v s v) cenv,
    cvs_value (cv_next b (close_v s v)) (close_vs s vs) cenv,
    refl,
    rel_v v s b env cenv
        (agree_fewer (λ i. occurs_vs i (MoreKVals v vs)) (λ i. occurs_v i v) s.vars env cenv
        (λ i e. or_left (occurs_v i v) (occurs_vs i vs) e) h),
    subst (λ c. Rels (kvs_value (kv_next b v) vs env) (cvs_value c (close_vs s vs) cenv)) (sym (v_next v s b))
        (rel_vs vs s (kv_next b v) env cenv
        (agree_fewer (λ i. occurs_vs i (MoreKVals v vs)) (λ i. occurs_vs i vs) s.vars env cenv
        (λ i e. or_right (occurs_v i v) (occurs_vs i vs) e) h)),
  )

-- declarations
abbrev OptionRel : Option KWord → Option CWord → Type 0
OptionRel None o = Unit {0}
OptionRel (Some v) None = ⊥
OptionRel (Some v) (Some c) = Rel v c

field_rel : (i : ℕ) (vs : KWords) (cs : CWords) → Rels vs cs → OptionRel (field i vs) (field i cs)
field_rel i NoWords cs r = subst (λ z. OptionRel None (field i z)) (sym r) tt
field_rel zero (MoreWords v vs) cs r = subst (λ z. OptionRel None (field 0 z)) (sym r.2) tt
field_rel (suc zero) (MoreWords v vs) cs r = subst (λ z. OptionRel (Some v) (field 1 z)) (sym r.2) r.3
field_rel (suc (suc i)) (MoreWords v vs) cs r =
    subst (λ z. OptionRel (field (suc i) vs) (field (suc (suc i)) z)) (sym r.2) (field_rel (suc i) vs r.1 r.4)

project_rel : (i : ℕ) (v : KWord) (c : CWord) → Rel v c → OptionRel (project i v) (project i c)
project_rel i (WInt n) c r = subst (λ z. OptionRel None (project i z)) (sym r) tt
project_rel i (WTuple vs) c r = subst (λ z. OptionRel (field i vs) (project i z)) (sym r.1) (field_rel i vs r.0 r.2)
project_rel i (WCode k env) c r = tt
project_rel i (WCell p) c r = tt

compute_rel : (op : Op) (v w : KWord) (c d : CWord) → Rel v c → Rel w d → OptionRel (operate op v w) (operate op c d)
compute_rel op (WInt x) (WInt y) c d r q =
    subst₂ (λ z u. OptionRel (operate op (WInt x) (WInt y)) (operate op z u)) (sym r) (sym q) refl
compute_rel op (WInt x) (WTuple ws) c d r q = subst₂ (λ z u. OptionRel None (operate op z u)) (sym r) (sym q.1) tt
compute_rel op (WInt x) (WCode (KCodeAt b owes args body) env) c d r q =
    subst₂ (λ z u. OptionRel None (operate op z u)) (sym r) (sym q.2) tt
compute_rel op (WInt x) (WCell p) c d r q = tt
compute_rel op (WCell p) w c d r q = tt
compute_rel op (WTuple vs) w c d r q = subst (λ z. OptionRel None (operate op z d)) (sym r.1) tt
compute_rel op (WCode (KCodeAt b owes args body) env) w c d r q =
    subst (λ z. OptionRel None (operate op z d)) (sym r.2) tt

-- stores, place by place
held_rel : (p : ℕ) (st : KWords) (cst : CWords) → Rels st cst → OptionRel (held p st) (held p cst)
held_rel p NoWords cst r = tt
held_rel zero (MoreWords v st) cst r = subst (λ z. OptionRel (Some v) (held 0 z)) (sym r.2) r.3
held_rel (suc p) (MoreWords v st) cst r =
    subst (λ z. OptionRel (held p st) (held (suc p) z)) (sym r.2) (held_rel p st r.1 r.4)

hold_rel : (p : ℕ) (st : KWords) (cst : CWords) (w : KWord) (c : CWord) → Rels st cst → Rel w c →
    Rels (hold p w st) (hold p c cst)
hold_rel p NoWords cst w c r q = ap (hold p c) r
hold_rel zero (MoreWords v st) cst w c r q = (c, r.1, ap (hold 0 c) r.2, q, r.4)
hold_rel (suc p) (MoreWords v st) cst w c r q =
    (r.0, hold p c r.1, ap (hold (suc p) c) r.2, r.3, hold_rel p st r.1 w c r.4 q)

more_rel : (st : KWords) (cst : CWords) (w : KWord) (c : CWord) → Rels st cst → Rel w c →
    Rels (one_more st w) (one_more cst c)
more_rel NoWords cst w c r q = (c, NoWords, ap (λ z. one_more z c) r, q, refl)
more_rel (MoreWords v st) cst w c r q =
    (r.0, one_more r.1 c, ap (λ z. one_more z c) r.2, r.3, more_rel st r.1 w c r.4 q)

abbrev MadeRel : Made KNumbered → Made CNumbered → Type 0
MadeRel Fails m = Unit {0}
MadeRel (Makes v st) Fails = ⊥
MadeRel (Makes v st) (Makes c cst) = Rel v c × Rels st cst

given_rel : (o : Option KWord) (p : Option CWord) (st : KWords) (cst : CWords) → OptionRel o p → Rels st cst →
    MadeRel (given o st) (given p cst)
given_rel None p st cst h r = tt
given_rel (Some v) None st cst h r = absurd h
given_rel (Some v) (Some c) st cst h r = (h, r)

get_rel : (v : KWord) (c : CWord) (st : KWords) (cst : CWords) → Rel v c → Rels st cst → MadeRel (get v st) (get c cst)
get_rel (WInt n) c st cst h r = tt
get_rel (WTuple vs) c st cst h r = tt
get_rel (WCode k env) c st cst h r = tt
get_rel (WCell p) c st cst h r =
    subst (λ z. MadeRel (given (held p st) st) (get z cst)) (sym h)
    (given_rel (held p st) (held p cst) st cst (held_rel p st cst r) r)

set_rel : (v w : KWord) (c d : CWord) (st : KWords) (cst : CWords) → Rel v c → Rel w d → Rels st cst →
    MadeRel (set v w st) (set c d cst)
set_rel (WInt n) w c d st cst h q r = tt
set_rel (WTuple vs) w c d st cst h q r = tt
set_rel (WCode k env) w c d st cst h q r = tt
set_rel (WCell p) w c d st cst h q r =
    subst (λ z. MadeRel (set (WCell p) w st) (set z d cst)) (sym h)
    ((NoWords, refl, refl), hold_rel p st cst w d r q)

rel_d : (d : KDecl) (s : Scope) (b : ℕ) (env : KWords) (cenv : CWords) (st : KWords) (cst : CWords) →
    Agree (λ i. occurs_d i d) s.vars env cenv → Rels st cst →
    MadeRel (kd_value b d env st) (cd_value b (close_d s d) cenv cst)
rel_d (KName v) s b env cenv st cst h r = (rel_v v s b env cenv h, r)
rel_d (KProj i v) s b env cenv st cst h r = given_rel _ _ st cst (project_rel i _ _ (rel_v v s b env cenv h)) r
rel_d (KPack hid v shape) s b env cenv st cst h r = (rel_v v s b env cenv h, r)
rel_d (KUnpack v) s b env cenv st cst h r = (rel_v v s b env cenv h, r)
rel_d (KCell v) s b env cenv st cst h r =
    (ap WCell (rels_size st cst r), more_rel st cst _ _ r (rel_v v s b env cenv h))
rel_d (KGet v) s b env cenv st cst h r = get_rel _ _ st cst (rel_v v s b env cenv h) r
rel_d (KSet v w) s b env cenv st cst h r =
    set_rel _ _ _ _ st cst
    (rel_v v s b env cenv
    (agree_fewer (λ i. occurs_d i (KSet v w)) (λ i. occurs_v i v) s.vars env cenv
    (λ i e. or_left (occurs_v i v) (occurs_v i w) e) h))
    (subst (λ c. Rel (kv_value (kv_next b v) w env) (cv_value c (close_v s w) cenv)) (sym (v_next v s b))
    (rel_v w s (kv_next b v) env cenv
    (agree_fewer (λ i. occurs_d i (KSet v w)) (λ i. occurs_v i w) s.vars env cenv
    (λ i e. or_right (occurs_v i v) (occurs_v i w) e) h))) r
rel_d (KArith op v w) s b env cenv st cst h r =
    given_rel _ _ st cst (compute_rel op _ _ _ _
    (rel_v v s b env cenv
    (agree_fewer (λ i. occurs_d i (KArith op v w)) (λ i. occurs_v i v) s.vars env cenv
    (λ i e. or_left (occurs_v i v) (occurs_v i w) e) h))
    (subst (λ c. Rel (kv_value (kv_next b v) w env) (cv_value c (close_v s w) cenv)) (sym (v_next v s b))
    (rel_v w s (kv_next b v) env cenv
    (agree_fewer (λ i. occurs_d i (KArith op v w)) (λ i. occurs_v i w) s.vars env cenv
    (λ i e. or_right (occurs_v i v) (occurs_v i w) e) h)))) r

-- codes
abbrev self_code : ℕ → Scope → ℕ → KTys → KTm → CWord
self_code b s owes args body =
    cv_value b (closed_code s owes args body (close_t (inner s owes args body) body)) NoWords

-- a closed code does, from an environment and arguments that stand for the others, what the code does
abbrev Follows : KEnter → CEnter → Type 0
Follows ke ce =
    (b owes : ℕ) (args : KTys) (body : KTm) (env : KWords) (s : Scope) (xs : CWords) (vs : KWords) (ws : CWords)
    (st : KWords) (cst : CWords) → Spans s.vars env → RelKept env (keeps args body) xs → Rels vs ws → Rels st cst →
    size vs ≡ kcount args → Fine (ke b body (onto vs (MoreWords (WCode (KCodeAt b owes args body) env) env)) st).end →
    ce b (closed_body s owes args body (close_t (inner s owes args body) body))
    (onto ws (MoreWords (WTuple (onto xs NoWords)) (MoreWords (self_code b s owes args body) NoWords))) cst
    ≡ ke b body (onto vs (MoreWords (WCode (KCodeAt b owes args body) env) env)) st

pub ctypes_count : (r : ℕ → ℕ) (ts : KTys) → ccount (ctypes r ts) ≡ kcount ts
ctypes_count r NoKTys = refl
ctypes_count r (MoreKTys t ts) = ap suc (ctypes_count r ts)

eq_suc : (x y : ℕ) → nat_eq (suc x) (suc y) ≡ nat_eq x y
eq_suc x y = eqb-suc-suc x y

fits_safe : (k : Bool) (r q : Result) → (k ≡ true → Fine q.end → r ≡ q) → Fine (if_fits k q).end →
    if_fits k r ≡ if_fits k q
fits_safe true r q f h = f refl h
fits_safe false r q f h = refl

fits_same : (k : Bool) (x y m n : ℕ) (r q : Result) → x ≡ m → y ≡ n → (m ≡ n → Fine q.end → r ≡ q) →
    Fine (if_fits (k && nat_eq m n) q).end → if_fits (nat_eq (suc x) (suc y)) r ≡ if_fits (k && nat_eq m n) q
fits_same true x y m n r q d e f h =
    ap (λ k. if_fits k r) (eq_suc x y ∙ ap₂ nat_eq d e) ∙ fits_safe (nat_eq m n) r q (λ g. f (eqb-true m n g)) h
fits_same false x y m n r q d e f h = absurd h

call_rel : (ke : KEnter) (ce : CEnter) → Follows ke ce →
    (m : ℕ) (v : KWord) (c : CWord) (vs : KWords) (w : CWord → CWord → CWord → CWords) (st : KWords) (cst : CWords) →
    Rel v c → ((x y z : CWord) → Rels vs (w x y z)) → Rels st cst → Fine (kopen ke m v vs st).end →
    with_value (given (project 1 c) cst)
    (λ y st2. with_value (given (project 2 c) st2) (λ z st3. copen ce y (MoreWords z (w c y z)) st3))
    ≡ kopen ke m v vs st
call_rel ke ce f m (WInt n) c vs w st cst r q g h = absurd h
call_rel ke ce f m (WTuple us) c vs w st cst r q g h = absurd h
call_rel ke ce f m (WCell p) c vs w st cst r q g h = absurd h
call_rel ke ce f m (WCode (KCodeAt b owes args body) env) c vs w st cst r q g h =
    subst (λ k. with_value (given (project 1 k) cst)
    (λ y st2. with_value (given (project 2 k) st2) (λ z st3. copen ce y (MoreWords z (w k y z)) st3))
    ≡ kopen ke m (WCode (KCodeAt b owes args body) env) vs st) (sym r.2) (
    let cargs = ccount (ctypes (inner r.0 owes args body).tvar args) in
    fits_same (nat_eq m owes) _ cargs (size vs) (kcount args) _ _ (rels_size vs _ (q _ _ _))
    (ctypes_count (inner r.0 owes args body).tvar args)
    (λ e. f b owes args body env r.0 r.1 vs _ st cst r.3 r.4 (q _ _ _) g e) h)

-- terms
at_zero_rel : (v : KWord) (c : CWord) (r q x y : Result) → Rel v c → (Fine r.end → x ≡ r) → (Fine q.end → y ≡ q) →
    Fine (at_zero v r q).end → at_zero c x y ≡ at_zero v r q
at_zero_rel (WInt n) c r q x y h d e f = ap (λ k. at_zero k x y) h ∙ pick_same (is_zero n) f
  where
    pick_same : (b : Bool) → Fine (pick b r q).end → pick b x y ≡ pick b r q
    pick_same true f = d f
    pick_same false f = e f
at_zero_rel (WTuple vs) c r q x y h d e f = absurd f
at_zero_rel (WCode k env) c r q x y h d e f = absurd f
at_zero_rel (WCell p) c r q x y h d e f = absurd f

halt_rel : (v : KWord) (c : CWord) → Rel v c → halt_with c ≡ halt_with v
halt_rel (WInt n) c h = ap halt_with h
halt_rel (WTuple vs) c h = ap halt_with h.1
halt_rel (WCode (KCodeAt b owes args body) env) c h = ap halt_with h.2
halt_rel (WCell p) c h = ap halt_with h

value_rel : (o : Made KNumbered) (p : Made CNumbered) (f : KWord → KWords → Result) (g : CWord → CWords → Result) →
    MadeRel o p → ((v : KWord) (c : CWord) (st : KWords) (cst : CWords) → Rel v c → Rels st cst → Fine (f v st).end →
    g c cst ≡ f v st) → Fine (with_value o f).end → with_value p g ≡ with_value o f
value_rel Fails p f g h k q = absurd q
value_rel (Makes v st) Fails f g h k q = absurd h
value_rel (Makes v st) (Makes c cst) f g h k q = k v c st cst h.0 h.1 q

open_vars : (d : KDecl) (s : Scope) → (with_decl d s).vars ≡ Some 0 ∷ further s.vars
open_vars d s = go (opens d)
  where
    go : (k : Bool) → Some 0 ∷ further (open_if k s).vars ≡ Some 0 ∷ further s.vars
    go true = refl
    go false = refl

rel_t : (ke : KEnter) (ce : CEnter) → Follows ke ce →
    (t : KTm) (s : Scope) (b : ℕ) (env : KWords) (cenv : CWords) (st : KWords) (cst : CWords) →
    Agree (λ i. occurs_t i t) s.vars env cenv → Rels st cst → Fine (kterm ke b t env st).end →
    cterm ce b (close_t s t) cenv cst ≡ kterm ke b t env st
rel_t ke ce f (KLet d t) s b env cenv st cst h w ok =
    let s' = with_decl d s in
    value_rel (kd_value b d env st) (cd_value b (close_d s d) cenv cst) _ _
    (rel_d d s b env cenv st cst
    (agree_fewer (λ i. occurs_t i (KLet d t)) (λ i. occurs_d i d) s.vars env cenv
    (λ i e. or_left (occurs_d i d) (occurs_t (suc i) t) e) h) w)
    (λ v c st2 cst2 r w2 q. ap (λ n. cterm ce n (close_t s' t) (MoreWords c cenv) cst2) (d_next d s b)
    ∙ rel_t ke ce f t s' (kd_next b d) (MoreWords v env) (MoreWords c cenv) st2 cst2
    (subst (λ z. Agree (λ i. occurs_t i t) z (MoreWords v env) (MoreWords c cenv)) (sym (open_vars d s)) (
      λ _. r,
      agree_further (λ i. occurs_t (suc i) t) s.vars env c cenv
          (agree_fewer (λ i. occurs_t i (KLet d t)) (λ i. occurs_t (suc i) t) s.vars env cenv
          (λ i e. or_right (occurs_d i d) (occurs_t (suc i) t) e) h),
    )) w2 q) ok
rel_t ke ce f (KCall g ts vs) s b env cenv st cst h w ok =
    call_rel ke ce f (kcount ts) (kv_value b g env) (cv_value b (close_v s g) cenv) (kvs_value (kv_next b g) vs env)
    (λ x y z. cvs_value (cv_next b (close_v s g)) (close_vs (in_call s) vs)
    (MoreWords z (MoreWords y (MoreWords x cenv)))) st cst
    (rel_v g s b env cenv
    (agree_fewer (λ i. occurs_t i (KCall g ts vs)) (λ i. occurs_v i g) s.vars env cenv
    (λ i e. or_left (occurs_v i g) (occurs_vs i vs) e) h))
    (λ x y z. subst
    (λ n. Rels (kvs_value (kv_next b g) vs env)
    (cvs_value n (close_vs (in_call s) vs) (MoreWords z (MoreWords y (MoreWords x cenv)))))
    (sym (v_next g s b))
    (rel_vs vs (in_call s) (kv_next b g) env (MoreWords z (MoreWords y (MoreWords x cenv)))
    (agree_further (λ i. occurs_vs i vs) (further (further s.vars)) env z (MoreWords y (MoreWords x cenv))
    (agree_further (λ i. occurs_vs i vs) (further s.vars) env y (MoreWords x cenv)
    (agree_further (λ i. occurs_vs i vs) s.vars env x cenv
    (agree_fewer (λ i. occurs_t i (KCall g ts vs)) (λ i. occurs_vs i vs) s.vars env cenv
    (λ i e. or_right (occurs_v i g) (occurs_vs i vs) e) h)))))) w ok
rel_t ke ce f (KIf v t u) s b env cenv st cst h w ok =
    at_zero_rel (kv_value b v env) (cv_value b (close_v s v) cenv) _ _ _ _
    (rel_v v s b env cenv
    (agree_fewer (λ i. occurs_t i (KIf v t u)) (λ i. occurs_v i v) s.vars env cenv
    (λ i e. or_left (occurs_v i v) (occurs_t i t || occurs_t i u) e) h))
    (λ q. ap (λ n. cterm ce n (close_t s t) cenv cst) (v_next v s b)
    ∙ rel_t ke ce f t s (kv_next b v) env cenv st cst
    (agree_fewer (λ i. occurs_t i (KIf v t u)) (λ i. occurs_t i t) s.vars env cenv
    (λ i e. or_right (occurs_v i v) (occurs_t i t || occurs_t i u) (or_left (occurs_t i t) (occurs_t i u) e)) h) w
    q)
    (λ q. ap (λ n. cterm ce n (close_t s u) cenv cst)
    (ap (λ c. ct_next c (close_t s t)) (v_next v s b) ∙ t_next t s (kv_next b v))
    ∙ rel_t ke ce f u s (kt_next (kv_next b v) t) env cenv st cst
    (agree_fewer (λ i. occurs_t i (KIf v t u)) (λ i. occurs_t i u) s.vars env cenv
    (λ i e. or_right (occurs_v i v) (occurs_t i t || occurs_t i u) (or_right (occurs_t i t) (occurs_t i u) e)) h) w
    q) ok
rel_t ke ce f (KHalt v) s b env cenv st cst h w ok =
    halt_rel (kv_value b v env) (cv_value b (close_v s v) cenv) (rel_v v s b env cenv h)

-- the projections name the rest of a tuple's fields
run_projections : (ce : CEnter) (b : ℕ) (rest fs : CWords) (j e : ℕ) (t : CTm) (cenv cst : CWords) →
    at cenv e ≡ WTuple fs → without_first j fs ≡ rest → cterm ce b (projections (size rest) (suc j) e t) cenv cst
    ≡ cterm ce b t (onto rest cenv) cst
run_projections ce b NoWords fs j e t cenv cst h d = refl
run_projections ce b (MoreWords x rest) fs j e t cenv cst h d =
    let p = without_one_more j fs x rest d in
    ap (λ k. with_value (given (project (suc j) k) cst)
    (λ v st2. cterm ce b (projections (size rest) (suc (suc j)) (suc e) t) (MoreWords v cenv) st2)) h
    ∙ ap (λ k. with_value (given k cst)
    (λ v st2. cterm ce b (projections (size rest) (suc (suc j)) (suc e) t) (MoreWords v cenv) st2)) p.0
    ∙ run_projections ce b rest fs (suc j) (suc e) t (MoreWords x cenv) cst h p.2

run_named : (ce : CEnter) (b : ℕ) (u : Bool) (v : CVal) (t : CTm) (c : CWord) (xs base cst : CWords) →
    cv_next b v ≡ b → cv_value b v (join xs base) ≡ c →
    cterm ce b (named u v t) (join xs base) cst ≡ cterm ce b t (join (cadd u c xs) base) cst
run_named ce b true v t c xs base cst d e = ap₂ (λ k z. cterm ce k t (MoreWords z (join xs base)) cst) d e
run_named ce b false v t c xs base cst d e = refl

follows : (n : ℕ) → Follows (kenter n) (center n)
follows zero b owes args body env s xs vs ws st cst sp kept r w e ok = refl
follows (suc n) b owes args body env s xs vs ws st cst sp kept r w e ok =
    ap (enters b)
    (ap (λ k. cterm (center n) (suc b)
    (projections k 1 (kcount args) (named (uses args body 0) (rebuilt s owes args body) t')) cenv0 cst) k-fields
    ∙ run_projections (center n) (suc b) fields fields 0 (kcount args)
    (named (uses args body 0) (rebuilt s owes args body) t') cenv0 cst at_env refl
    ∙ ap (λ z. cterm (center n) (suc b) (named (uses args body 0) (rebuilt s owes args body) t') z cst)
    (onto_onto xs NoWords cenv0)
    ∙ run_named (center n) (suc b) (uses args body 0) (rebuilt s owes args body) t' cself xs cenv0 cst refl self_value
    ∙ rel_t (kenter n) (center n) (follows n) body (inner s owes args body) (suc b) (onto vs (MoreWords self env))
    cenv2 st cst agree w ok)
  where
    t' : CTm
    t' = close_t (inner s owes args body) body

    self : KWord
    self = WCode (KCodeAt b owes args body) env

    code : CWord
    code = self_code b s owes args body

    fields : CWords
    fields = onto xs NoWords

    cself : CWord
    cself = (WTuple (MoreWords code (MoreWords (WTuple fields) NoWords)))

    base : CWords
    base = MoreWords (WTuple fields) (MoreWords code NoWords)

    cenv0 : CWords
    cenv0 = onto ws base

    cenv1 : CWords
    cenv1 = join xs cenv0

    xs2 : CWords
    xs2 = cadd (uses args body 0) cself xs

    cenv2 : CWords
    cenv2 = join xs2 cenv0

    k2 : ℕ
    k2 = kept_count (uses args body) (None ∷ s.vars)

    kc : ℕ
    kc = kept_count (keeps args body) s.vars

    k-xs : kc ≡ size xs
    k-xs = kept_size (keeps args body) s.vars env xs sp kept

    k-fields : kc ≡ size fields
    k-fields = omega (arith, k-xs, size_onto xs NoWords)

    n-ws : kcount args ≡ size ws
    n-ws = sym e ∙ sym (rels_size vs ws r)

    at_base : (i : ℕ) → at cenv0 (lift (kcount args) i) ≡ at base i
    at_base i = ap (λ k. at cenv0 (lift k i)) n-ws ∙ at_onto ws base i

    at_env : at cenv0 (kcount args) ≡ WTuple fields
    at_env = ap (at cenv0) (sym (lift_zero (kcount args))) ∙ at_base 0

    at_code : at cenv0 (suc (kcount args)) ≡ code
    at_code = ap (at cenv0) (sym (lift_suc (kcount args) 0 ∙ ap suc (lift_zero (kcount args)))) ∙ at_base 1

    past_xs : (i : ℕ) → at cenv1 (lift kc i) ≡ at cenv0 i
    past_xs i = ap (λ k. at cenv1 (lift k i)) k-xs ∙ at_join xs cenv0 i

    self_value :
        (WTuple (MoreWords (at cenv1 (lift kc (suc (kcount args))))
        (MoreWords (at cenv1 (lift kc (kcount args))) NoWords))) ≡ cself
    self_value = ap₂ (λ x y. (WTuple (MoreWords x (MoreWords y NoWords)))) (past_xs (suc (kcount args)) ∙ at_code)
        (past_xs (kcount args) ∙ at_env)

    self_rel : Rel self cself
    self_rel = (s, xs, refl, sp, kept)

    args_at : without_first k2 cenv2 ≡ join (onto ws NoWords) base
    args_at = ap (λ k. without_first k cenv2) (cadd_size (uses args body 0) cself xs kc k-xs) ∙ without_joined xs2 cenv0
        ∙ onto_join ws NoWords base

    n-vs : kcount args ≡ size (onto vs NoWords)
    n-vs = omega (arith, e, size_onto vs NoWords)

    ps : Places
    ps = kept_places 0 (uses args body) (None ∷ s.vars)

    inside : Agree (uses args body) ps (MoreWords self env) cenv2
    inside = kept_agree (uses args body) (None ∷ s.vars) (MoreWords self env) xs2 cenv0 cenv2 0 sp
        (cadd_kept (uses args body 0) self cself xs (λ ys. RelKept env (keeps args body) ys) self_rel kept) refl

    agree : Agree (λ i. occurs_t i body) (from_on k2 (kcount args) ps) (onto vs (MoreWords self env)) cenv2
    agree = subst₂ (λ n E. Agree (λ i. occurs_t i body) (from_on k2 n ps) E cenv2) (sym n-vs)
        (sym (onto_join vs NoWords (MoreWords self env)))
        (args_agree (λ i. occurs_t i body) (onto vs NoWords) (MoreWords self env) (onto ws NoWords) base cenv2 k2 ps
        (rels_onto vs NoWords ws NoWords r refl) args_at
        (subst (λ n. Agree (λ i. occurs_t (lift n i) body) ps (MoreWords self env) cenv2) n-vs inside))

pub meaning_kept : NeverStuck → (t : KTm) → KTyped 0 [] t → (n : ℕ) → crun n (close_of t) ≡ krun n t
meaning_kept sound t g n =
    rel_t (kenter n) (center n) (follows n) t no_scope 0 NoWords NoWords NoWords NoWords tt refl
    (fine (krun n t).end (sound t g n))
