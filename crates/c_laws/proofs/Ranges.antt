-- Which type variables occur, and that they are in scope.
use Rattle.std.proofs.Common.{◌≡◌, ◌<◌, ◌⊎◌, inl, inr, ℕ, zero, suc, Bool, true, false, ◌||◌, ◌&&◌, List, [], ◌∷◌}
use Rattle.std.proofs.Common.{refl, sym, ap, ◌∙◌, subst, arith, eq-eqb, eqb-true, nat_eq}
use Rattle.calc_core.specs.Ends.{lift, under, after_one}
use Rattle.k_terms.specs.K.{KTy, KTys, TKInt, TKVar, TKTuple, TKCode, TKExists, TKRef, NoKTys, MoreKTys, KVal, KVar}
use Rattle.k_terms.specs.K.{KInt, KTuple, KCode, KVals, NoKVals, MoreKVals, KDecl, KName, KProj, KArith, KPack}
use Rattle.k_terms.specs.K.{KUnpack, KCell, KGet, KSet, KTm, KLet, KCall, KIf, KHalt, kcount, kren, krens, krens_scope}
use Rattle.k_terms.specs.K.{kargs_onto, kbody_scope, opens, scope_more}
use Rattle.c_rules.specs.Free.{tfree, tfrees, tfree_v, tfree_vs, tfree_d, tfree_t, occurs_v, occurs_vs, occurs_d}
use Rattle.k_terms.specs.Types.{ktype_at, kfield, kproj_type, kv_type, kvs_type, kd_type, kopen_type, kheld_type}
use Rattle.k_terms.specs.Typing.{KIn, KIns, KAt, KField, KHas, KHave, KGives, KTyped}
use Rattle.c_terms.specs.Typing.{CIn, CIns}
use Rattle.c_rules.specs.Close.{ctype, ctypes, rank, tfree_kept}
use Rattle.c_laws.proofs.Envs.{or_left, or_right}
use Rattle.c_laws.proofs.TypeEnvs.{ScopeIn}
use Rattle.calc_core.proofs.Lifts.{lift_suc}
use Rattle.std.proofs.lemmas.Bool.{and_parts as and_split, and_from as and_both}

pub or_cases : (a b : Bool) → a || b ≡ true → (a ≡ true) ⊎ (b ≡ true)
or_cases true b e = inl refl
or_cases false b e = inr e

pub or_split : {P : Type 0} (a b : Bool) → (a ≡ true → P) → (b ≡ true → P) → a || b ≡ true → P
or_split true b f g e = f refl
or_split false b f g e = g e

pub lift_lt : (m i n : ℕ) → i < n → lift m i < lift m n
lift_lt zero i n h = h
lift_lt (suc m) i n h = omega (arith, lift_lt m i n h)

pub lift_lt_back : (m i n : ℕ) → lift m i < lift m n → i < n
lift_lt_back zero i n h = h
lift_lt_back (suc m) i n h = lift_lt_back m i n (omega arith)

pub under_lt : (m : ℕ) (live : ℕ → Bool) (r : ℕ → ℕ) (n : ℕ) → ((j : ℕ) → live (lift m j) ≡ true → r j < n) → (i : ℕ) →
    live i ≡ true → under m r i < lift m n
under_lt zero live r n f i e = f i e
under_lt (suc m) live r n f zero e = omega arith
under_lt (suc m) live r n f (suc i) e = let h = under_lt m (λ j. live (suc j)) r n f i e in omega (arith, h)

pub under_below : (m : ℕ) (q : ℕ → ℕ) (n k : ℕ) → ((i : ℕ) → i < n → q i < k) → (i : ℕ) → i < lift m n →
    under m q i < lift m k
under_below zero q n k f i h = f i h
under_below (suc m) q n k f zero h = omega arith
under_below (suc m) q n k f (suc i) h = let g = under_below m q n k f i (omega arith) in omega (arith, g)

mutual
  pub in_kren : (t : KTy) (q : ℕ → ℕ) (n k : ℕ) → ((i : ℕ) → i < n → q i < k) → KIn n t → KIn k (kren q t)
  in_kren TKInt q n k f h = tt
  in_kren (TKVar i) q n k f h = f i h
  in_kren (TKTuple ts) q n k f h = in_krens ts q n k f h
  in_kren (TKExists t) q n k f h = in_kren t (under 1 q) (suc n) (suc k) (under_below 1 q n k f) h
  in_kren (TKRef t) q n k f h = in_kren t q n k f h
  in_kren (TKCode m ts) q n k f h = in_krens ts (under m q) (lift m n) (lift m k) (under_below m q n k f) h

  pub in_krens : (ts : KTys) (q : ℕ → ℕ) (n k : ℕ) → ((i : ℕ) → i < n → q i < k) → KIns n ts → KIns k (krens q ts)
  in_krens NoKTys q n k f h = tt
  in_krens (MoreKTys t ts) q n k f h = (in_kren t q n k f h.0, in_krens ts q n k f h.1)

pub scope_in_kren : (g : List KTy) (q : ℕ → ℕ) (n k : ℕ) → ((i : ℕ) → i < n → q i < k) → ScopeIn n g →
    ScopeIn k (krens_scope q g)
scope_in_kren [] q n k f h = tt
scope_in_kren (t ∷ g) q n k f h = (in_kren t q n k f h.0, scope_in_kren g q n k f h.1)

pub scope_in_args : (ts : KTys) (g : List KTy) (n : ℕ) → KIns n ts → ScopeIn n g → ScopeIn n (kargs_onto ts g)
scope_in_args NoKTys g n h k = k
scope_in_args (MoreKTys t ts) g n h k = scope_in_args ts (t ∷ g) n h.1 (h.0, k)

mutual
  pub in_ctype : (t : KTy) (r : ℕ → ℕ) (n : ℕ) → ((i : ℕ) → tfree i t ≡ true → r i < n) → CIn n (ctype r t)
  in_ctype TKInt r n f = tt
  in_ctype (TKVar i) r n f = f i (eq-eqb i i refl)
  in_ctype (TKTuple ts) r n f = in_ctypes ts r n f
  in_ctype (TKExists t) r n f = in_ctype t (under 1 r) (suc n) (under_lt 1 (λ i. tfree i t) r n f)
  in_ctype (TKRef t) r n f = in_ctype t r n f
  in_ctype (TKCode m ts) r n f = (
    (
      lift_lt m 0 (suc n) (omega arith),
      in_ctypes ts (under m (λ i. suc (r i))) (lift m (suc n))
          (under_lt m (λ i. tfrees i ts) (λ i. suc (r i)) (suc n) (λ j e. let h = f j e in omega (arith, h))),
    ),
    (omega arith, tt),
  )

  pub in_ctypes : (ts : KTys) (r : ℕ → ℕ) (n : ℕ) → ((i : ℕ) → tfrees i ts ≡ true → r i < n) → CIns n (ctypes r ts)
  in_ctypes NoKTys r n f = tt
  in_ctypes (MoreKTys t ts) r n f = (
    in_ctype t r n (λ i e. f i (or_left (tfree i t) (tfrees i ts) e)),
    in_ctypes ts r n (λ i e. f i (or_right (tfree i t) (tfrees i ts) e)),
  )

mutual
  pub tfree_lt : (t : KTy) (n j : ℕ) → KIn n t → tfree j t ≡ true → j < n
  tfree_lt TKInt n j h e = absurd cc
  tfree_lt (TKVar i) n j h e = subst (λ k. k < n) (sym (eqb-true j i e)) h
  tfree_lt (TKTuple ts) n j h e = tfrees_lt ts n j h e
  tfree_lt (TKExists t) n j h e = let q = tfree_lt t (suc n) (suc j) h e in omega (arith, q)
  tfree_lt (TKRef t) n j h e = tfree_lt t n j h e
  tfree_lt (TKCode m ts) n j h e = lift_lt_back m j n (tfrees_lt ts (lift m n) (lift m j) h e)

  pub tfrees_lt : (ts : KTys) (n j : ℕ) → KIns n ts → tfrees j ts ≡ true → j < n
  tfrees_lt NoKTys n j h e = absurd cc
  tfrees_lt (MoreKTys t ts) n j h e =
      or_split (tfree j t) (tfrees j ts) (λ d. tfree_lt t n j h.0 d) (λ d. tfrees_lt ts n j h.1 d) e

pub kept_lt : (g : List KTy) (keep : ℕ → Bool) (n j : ℕ) → ScopeIn n g → tfree_kept j keep g ≡ true → j < n
kept_lt [] keep n j h e = absurd cc
kept_lt (t ∷ g) keep n j h e =
    or_split (keep 0 && tfree j t) (tfree_kept j (λ i. keep (suc i)) g)
    (λ d. tfree_lt t n j h.0 (and_split (keep 0) (tfree j t) d).1) (λ d. kept_lt g (λ i. keep (suc i)) n j h.1 d) e

one_fewer : (a b : Bool) (c : Bool) → (a ≡ true → b ≡ true) → a && c ≡ true → b && c ≡ true
one_fewer a b c f e = let p = and_split a c e in and_both b c (f p.0) p.1

pub kept_fewer : (g : List KTy) (live few : ℕ → Bool) (j : ℕ) → ((i : ℕ) → few i ≡ true → live i ≡ true) →
    tfree_kept j few g ≡ true → tfree_kept j live g ≡ true
kept_fewer [] live few j f e = absurd cc
kept_fewer (t ∷ g) live few j f e =
    or_split (few 0 && tfree j t) (tfree_kept j (λ i. few (suc i)) g)
    (λ d. or_left (live 0 && tfree j t) (tfree_kept j (λ i. live (suc i)) g)
    (one_fewer (few 0) (live 0) (tfree j t) (f 0) d))
    (λ d. or_right (live 0 && tfree j t) (tfree_kept j (λ i. live (suc i)) g)
    (kept_fewer g (λ i. live (suc i)) (λ i. few (suc i)) j (λ i. f (suc i)) d)) e

after_lt : (k : Bool) (a b : ℕ) → a < b → after_one k a < after_one k b
after_lt true a b h = omega arith
after_lt false a b h = h

first_lt : (k : Bool) (b : ℕ) → k ≡ true → 0 < after_one k b
first_lt true b e = omega arith
first_lt false b e = absurd cc

pub rank_lt : (keep : ℕ → Bool) (j n : ℕ) → keep j ≡ true → j < n → rank keep j < rank keep n
rank_lt keep j zero e h = absurd (omega arith)
rank_lt keep zero (suc n) e h = first_lt (keep 0) (rank (λ i. keep (suc i)) n) e
rank_lt keep (suc j) (suc n) e h = after_lt (keep 0) _ _ (rank_lt (λ i. keep (suc i)) j n e (omega arith))

-- a type variable that occurs after a renaming came from one before it
under_back : (m : ℕ) (q : ℕ → ℕ) (j k : ℕ) → ((i : ℕ) → q i ≡ k → i ≡ j) → (i : ℕ) → under m q i ≡ lift m k →
    i ≡ lift m j
under_back zero q j k f i e = f i e
under_back (suc m) q j k f zero e = absurd cc
under_back (suc m) q j k f (suc i) e = ap suc (under_back m q j k f i cc)

mutual
  pub tfree_back : (t : KTy) (q : ℕ → ℕ) (j k : ℕ) → ((i : ℕ) → q i ≡ k → i ≡ j) → tfree k (kren q t) ≡ true →
      tfree j t ≡ true
  tfree_back TKInt q j k f e = absurd cc
  tfree_back (TKVar i) q j k f e = eq-eqb j i (sym (f i (sym (eqb-true k (q i) e))))
  tfree_back (TKTuple ts) q j k f e = tfrees_back ts q j k f e
  tfree_back (TKExists t) q j k f e = tfree_back t (under 1 q) (suc j) (suc k) (under_back 1 q j k f) e
  tfree_back (TKRef t) q j k f e = tfree_back t q j k f e
  tfree_back (TKCode m ts) q j k f e = tfrees_back ts (under m q) (lift m j) (lift m k) (under_back m q j k f) e

  pub tfrees_back : (ts : KTys) (q : ℕ → ℕ) (j k : ℕ) → ((i : ℕ) → q i ≡ k → i ≡ j) → tfrees k (krens q ts) ≡ true →
      tfrees j ts ≡ true
  tfrees_back NoKTys q j k f e = absurd cc
  tfrees_back (MoreKTys t ts) q j k f e =
      or_split (tfree k (kren q t)) (tfrees k (krens q ts))
      (λ d. or_left (tfree j t) (tfrees j ts) (tfree_back t q j k f d))
      (λ d. or_right (tfree j t) (tfrees j ts) (tfrees_back ts q j k f d)) e

pub kept_back : (g : List KTy) (keep : ℕ → Bool) (q : ℕ → ℕ) (j k : ℕ) → ((i : ℕ) → q i ≡ k → i ≡ j) →
    tfree_kept k keep (krens_scope q g) ≡ true → tfree_kept j keep g ≡ true
kept_back [] keep q j k f e = absurd cc
kept_back (t ∷ g) keep q j k f e =
    or_split (keep 0 && tfree k (kren q t)) (tfree_kept k (λ i. keep (suc i)) (krens_scope q g))
    (λ d. let p = and_split (keep 0) (tfree k (kren q t)) d in
    or_left (keep 0 && tfree j t) (tfree_kept j (λ i. keep (suc i)) g)
    (and_both (keep 0) (tfree j t) p.0 (tfree_back t q j k f p.1)))
    (λ d. or_right (keep 0 && tfree j t) (tfree_kept j (λ i. keep (suc i)) g)
    (kept_back g (λ i. keep (suc i)) q j k f d)) e

pub lift_back : (m i j : ℕ) → lift m i ≡ lift m j → i ≡ j
lift_back zero i j e = e
lift_back (suc m) i j e = lift_back m i j cc

-- a type variable of the arguments' types or of a type around
pub kept_args : (ts : KTys) (g : List KTy) (keep : ℕ → Bool) (j : ℕ) → tfree_kept j keep (kargs_onto ts g) ≡ true →
    tfrees j ts || tfree_kept j (λ i. keep (lift (kcount ts) i)) g ≡ true
kept_args NoKTys g keep j e = e
kept_args (MoreKTys t ts) g keep j e =
    or_split (tfrees j ts) (tfree_kept j (λ i. keep (lift (kcount ts) i)) (t ∷ g))
    (λ d. or_left (tfree j t || tfrees j ts) _ (or_right (tfree j t) (tfrees j ts) d))
    (λ d. or_split (keep (lift (kcount ts) 0) && tfree j t) (tfree_kept j (λ i. keep (lift (kcount ts) (suc i))) g)
    (λ c. or_left (tfree j t || tfrees j ts) _
    (or_left (tfree j t) (tfrees j ts) (and_split (keep (lift (kcount ts) 0)) (tfree j t) c).1))
    (λ c. or_right (tfree j t || tfrees j ts) _
    (kept_fewer g (λ i. keep (suc (lift (kcount ts) i))) (λ i. keep (lift (kcount ts) (suc i))) j
    (λ i h. ap keep (sym (lift_suc (kcount ts) i)) ∙ h) c)) d)
    (kept_args ts (t ∷ g) keep j e)

-- the types that typing gives are in scope
pub at_in : (g : List KTy) (n i : ℕ) (t : KTy) → ScopeIn n g → KAt g i t → KIn n t
at_in [] n i t h a = absurd a
at_in (u ∷ g) n zero t h a = subst (KIn n) (sym a) h.0
at_in (u ∷ g) n (suc i) t h a = at_in g n i t h.1 a

pub field_in : (i n : ℕ) (ts : KTys) (t : KTy) → KIns n ts → KField i ts t → KIn n t
field_in i n NoKTys t h a = absurd a
field_in zero n (MoreKTys u us) t h a = absurd a
field_in (suc zero) n (MoreKTys u us) t h a = subst (KIn n) (sym a) h.0
field_in (suc (suc i)) n (MoreKTys u us) t h a = field_in (suc i) n us t h.1 a

mutual
  pub v_in : (v : KVal) (n : ℕ) (g : List KTy) (t : KTy) → ScopeIn n g → KHas n g v t → KIn n t
  v_in (KVar i) n g t s h = at_in g n i t s h
  v_in (KInt m) n g t s h = subst (KIn n) (sym h) tt
  v_in (KTuple vs) n g t s h = subst (KIn n) (sym h.1) (vs_in vs n g h.0 s h.2)
  v_in (KCode owes args body) n g t s h = subst (KIn n) (sym h.0) h.1

  pub vs_in : (vs : KVals) (n : ℕ) (g : List KTy) (ts : KTys) → ScopeIn n g → KHave n g vs ts → KIns n ts
  vs_in NoKVals n g ts s h = subst (KIns n) (sym h) tt
  vs_in (MoreKVals v vs) n g ts s h = subst (KIns n) (sym h.2) (v_in v n g h.0 s h.3, vs_in vs n g h.1 s h.4)

pub d_in : (d : KDecl) (n : ℕ) (g : List KTy) (t : KTy) → ScopeIn n g → KGives n g d t → KIn (after_one (opens d) n) t
d_in (KName v) n g t s h = v_in v n g t s h
d_in (KProj i v) n g t s h = field_in i n h.0 t (v_in v n g (TKTuple h.0) s h.1) h.2
d_in (KArith op v w) n g t s h = subst (KIn n) (sym h.0) tt
d_in (KPack hid v shape) n g t s h = subst (KIn n) (sym h.2) h.4
d_in (KUnpack v) n g t s h = v_in v n g (TKExists t) s h
d_in (KCell v) n g t s h = subst (KIn n) (sym h.1) (v_in v n g h.0 s h.2)
d_in (KGet v) n g t s h = v_in v n g (TKRef t) s h
d_in (KSet v w) n g t s h = subst (KIn n) (sym h.1) tt

-- the type variables of a type that is read off
at_free : (g : List KTy) (i j : ℕ) → tfree j (ktype_at g i) ≡ true → tfree_kept j (λ k. nat_eq k i) g ≡ true
at_free [] i j e = absurd cc
at_free (t ∷ g) zero j e = or_left (tfree j t) (tfree_kept j (λ k. nat_eq (suc k) 0) g) e
at_free (t ∷ g) (suc i) j e =
    or_right (nat_eq 0 (suc i) && tfree j t) (tfree_kept j (λ k. nat_eq (suc k) (suc i)) g)
    (kept_fewer g (λ k. nat_eq (suc k) (suc i)) (λ k. nat_eq k i) j
    (λ k h. eq-eqb (suc k) (suc i) (ap suc (eqb-true k i h))) (at_free g i j e))

field_free : (i : ℕ) (ts : KTys) (j : ℕ) → tfree j (kfield i ts) ≡ true → tfrees j ts ≡ true
field_free i NoKTys j e = absurd cc
field_free zero (MoreKTys u us) j e = absurd cc
field_free (suc zero) (MoreKTys u us) j e = or_left (tfree j u) (tfrees j us) e
field_free (suc (suc i)) (MoreKTys u us) j e = or_right (tfree j u) (tfrees j us) (field_free (suc i) us j e)

proj_free : (i : ℕ) (t : KTy) (j : ℕ) → tfree j (kproj_type i t) ≡ true → tfree j t ≡ true
proj_free i TKInt j e = absurd cc
proj_free i (TKVar k) j e = absurd cc
proj_free i (TKTuple ts) j e = field_free i ts j e
proj_free i (TKCode n ts) j e = absurd cc
proj_free i (TKExists t) j e = absurd cc
proj_free i (TKRef t) j e = absurd cc

open_free : (t : KTy) (j : ℕ) → tfree (suc j) (kopen_type t) ≡ true → tfree j t ≡ true
open_free TKInt j e = absurd cc
open_free (TKVar k) j e = absurd cc
open_free (TKTuple ts) j e = absurd cc
open_free (TKCode n ts) j e = absurd cc
open_free (TKExists t) j e = e
open_free (TKRef t) j e = absurd cc

held_free : (t : KTy) (j : ℕ) → tfree j (kheld_type t) ≡ true → tfree j t ≡ true
held_free TKInt j e = absurd cc
held_free (TKVar k) j e = absurd cc
held_free (TKTuple ts) j e = absurd cc
held_free (TKCode n ts) j e = absurd cc
held_free (TKExists t) j e = absurd cc
held_free (TKRef t) j e = e

mutual
  pub v_free : (v : KVal) (g : List KTy) (j : ℕ) → tfree j (kv_type g v) ≡ true →
      tfree_v j v || tfree_kept j (λ i. occurs_v i v) g ≡ true
  v_free (KVar i) g j e = at_free g i j e
  v_free (KInt m) g j e = absurd cc
  v_free (KTuple vs) g j e = vs_free vs g j e
  v_free (KCode owes args body) g j e =
      or_left (tfrees (lift owes j) args || tfree_t (lift owes j) body) _
      (or_left (tfrees (lift owes j) args) (tfree_t (lift owes j) body) e)

  pub vs_free : (vs : KVals) (g : List KTy) (j : ℕ) → tfrees j (kvs_type g vs) ≡ true →
      tfree_vs j vs || tfree_kept j (λ i. occurs_vs i vs) g ≡ true
  vs_free NoKVals g j e = absurd cc
  vs_free (MoreKVals v vs) g j e =
      or_split (tfree j (kv_type g v)) (tfrees j (kvs_type g vs))
      (λ d. or_split (tfree_v j v) (tfree_kept j (λ i. occurs_v i v) g)
      (λ c. or_left (tfree_v j v || tfree_vs j vs) _ (or_left (tfree_v j v) (tfree_vs j vs) c))
      (λ c. or_right (tfree_v j v || tfree_vs j vs) _
      (kept_fewer g (λ i. occurs_v i v || occurs_vs i vs) (λ i. occurs_v i v) j
      (λ i h. or_left (occurs_v i v) (occurs_vs i vs) h) c)) (v_free v g j d))
      (λ d. or_split (tfree_vs j vs) (tfree_kept j (λ i. occurs_vs i vs) g)
      (λ c. or_left (tfree_v j v || tfree_vs j vs) _ (or_right (tfree_v j v) (tfree_vs j vs) c))
      (λ c. or_right (tfree_v j v || tfree_vs j vs) _
      (kept_fewer g (λ i. occurs_v i v || occurs_vs i vs) (λ i. occurs_vs i vs) j
      (λ i h. or_right (occurs_v i v) (occurs_vs i vs) h) c)) (vs_free vs g j d)) e

pub d_free : (d : KDecl) (g : List KTy) (j : ℕ) → tfree (after_one (opens d) j) (kd_type g d) ≡ true →
    tfree_d j d || tfree_kept j (λ i. occurs_d i d) g ≡ true
d_free (KName v) g j e = v_free v g j e
d_free (KProj i v) g j e = v_free v g j (proj_free i (kv_type g v) j e)
d_free (KArith op v w) g j e = absurd cc
d_free (KPack hid v shape) g j e =
    or_left (tfree j hid || (tfree_v j v || tfree j shape)) _
    (or_right (tfree j hid) (tfree_v j v || tfree j shape) (or_right (tfree_v j v) (tfree j shape) e))
d_free (KUnpack v) g j e = v_free v g j (open_free (kv_type g v) j e)
d_free (KCell v) g j e = v_free v g j e
d_free (KGet v) g j e = v_free v g j (held_free (kv_type g v) j e)
d_free (KSet v w) g j e = absurd cc

pub after_back : (k : Bool) (a b : ℕ) → after_one k a < after_one k b → a < b
after_back true a b h = omega arith
after_back false a b h = h

-- the type variables of a term with a type are in scope
mutual
  pub v_range : (v : KVal) (n : ℕ) (g : List KTy) (t : KTy) (j : ℕ) → KHas n g v t → tfree_v j v ≡ true → j < n
  v_range (KVar i) n g t j h e = absurd cc
  v_range (KInt m) n g t j h e = absurd cc
  v_range (KTuple vs) n g t j h e = vs_range vs n g h.0 j h.2 e
  v_range (KCode owes args body) n g t j h e =
      or_split (tfrees (lift owes j) args) (tfree_t (lift owes j) body)
      (λ d. lift_lt_back owes j n (tfrees_lt args (lift owes n) (lift owes j) h.1 d))
      (λ d. lift_lt_back owes j n (t_range body (lift owes n) (kbody_scope owes args g) (lift owes j) h.2 d)) e

  pub vs_range : (vs : KVals) (n : ℕ) (g : List KTy) (ts : KTys) (j : ℕ) → KHave n g vs ts → tfree_vs j vs ≡ true →
      j < n
  vs_range NoKVals n g ts j h e = absurd cc
  vs_range (MoreKVals v vs) n g ts j h e =
      or_split (tfree_v j v) (tfree_vs j vs) (λ d. v_range v n g h.0 j h.3 d) (λ d. vs_range vs n g h.1 j h.4 d) e

  pub d_range : (d : KDecl) (n : ℕ) (g : List KTy) (t : KTy) (j : ℕ) → KGives n g d t → tfree_d j d ≡ true → j < n
  d_range (KName v) n g t j h e = v_range v n g t j h e
  d_range (KProj i v) n g t j h e = v_range v n g (TKTuple h.0) j h.1 e
  d_range (KArith op v w) n g t j h e =
      or_split (tfree_v j v) (tfree_v j w) (λ d. v_range v n g TKInt j h.1 d) (λ d. v_range w n g TKInt j h.2 d) e
  d_range (KPack hid v shape) n g t j h e =
      or_split (tfree j hid) (tfree_v j v || tfree j shape) (λ d. tfree_lt hid n j h.3 d)
      (λ d. or_split (tfree_v j v) (tfree j shape) (λ c. v_range v n g _ j h.5 c) (λ c. tfree_lt shape n j h.4 c) d) e
  d_range (KUnpack v) n g t j h e = v_range v n g (TKExists t) j h e
  d_range (KCell v) n g t j h e = v_range v n g h.0 j h.2 e
  d_range (KGet v) n g t j h e = v_range v n g (TKRef t) j h e
  d_range (KSet v w) n g t j h e =
      or_split (tfree_v j v) (tfree_v j w) (λ d. v_range v n g (TKRef h.0) j h.2 d) (λ d. v_range w n g h.0 j h.3 d) e

  pub t_range : (t : KTm) (n : ℕ) (g : List KTy) (j : ℕ) → KTyped n g t → tfree_t j t ≡ true → j < n
  t_range (KLet d t) n g j h e =
      or_split (tfree_d j d) (tfree_t (after_one (opens d) j) t) (λ c. d_range d n g h.0 j h.1 c)
      (λ c. after_back (opens d) j n
      (t_range t (after_one (opens d) n) (h.0 ∷ scope_more (opens d) g) (after_one (opens d) j) h.2 c)) e
  t_range (KCall f ts vs) n g j h e =
      or_split (tfree_v j f) (tfrees j ts || tfree_vs j vs) (λ c. v_range f n g _ j h.1 c)
      (λ c. or_split (tfrees j ts) (tfree_vs j vs) (λ b. tfrees_lt ts n j h.2 b) (λ b. vs_range vs n g _ j h.3 b) c) e
  t_range (KIf v t u) n g j h e =
      or_split (tfree_v j v) (tfree_t j t || tfree_t j u) (λ c. v_range v n g TKInt j h.0 c)
      (λ c. or_split (tfree_t j t) (tfree_t j u) (λ b. t_range t n g j h.1 b) (λ b. t_range u n g j h.2 b) c) e
  t_range (KHalt v) n g j h e = v_range v n g TKInt j h e
