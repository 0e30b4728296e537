-- A term of the CPS calculus that has a type is never stuck.
use Rattle.std.proofs.Common.{◌≡◌, ℕ, zero, suc, nat_eq, ◌&&◌, List, [], ◌∷◌, refl, sym, ap, ◌∙◌, subst, ap₂, eq-eqb}
use Rattle.calc_core.specs.Ends.{lift, after_one}
use Rattle.calc_core.specs.Words.{WCode, NoWords, MoreWords, size, onto}
use Rattle.k_terms.specs.K.{KTy, KTys, TKInt, TKVar, TKCode, KVal, KVar}
use Rattle.k_terms.specs.K.{KInt, KTuple, KCode, KVals, NoKVals, MoreKVals}
use Rattle.k_terms.specs.K.{KTm, KLet, KCall, KIf, KHalt, kcount, kren, krens_scope}
use Rattle.k_terms.specs.K.{kbody_scope, kv_next, kd_next, kt_next, opens, scope_more}
use Rattle.k_terms.specs.Meaning.{KNumbered, KCodeAt, KWord, KWords, kv_value, kvs_value, kd_value, KEnter, kopen}
use Rattle.k_terms.specs.Meaning.{kterm, kenter, krun}
use Rattle.k_terms.specs.Typing.{KHas, KHave, KTyped, kup, ksub, ksubs, knames}
use Rattle.calc_core.proofs.Ends.{Fine, fits_fine}
use Rattle.calc_core.proofs.Substituting.{sub_ren, subs_count, subs_sub, named_sub, names_up, with_types_past}
use Rattle.calc_core.specs.Typing.{NoLabels}
use Rattle.calc_core.proofs.Declared.{sound_d}
use Rattle.calc_core.proofs.Words as W
use Rattle.calc_core.proofs.Words.{Has, Have, EnvHas, Stored}

-- the types of a call's arguments are those of the code's, at run time
call_args : (ts us args : KTys) (s r : ℕ → KTy) → ksubs (kup (kcount ts) r) args ≡ ksubs (kup (kcount ts) s) us →
    ksubs s (ksubs (knames ts TKVar) us) ≡ ksubs (knames (ksubs s ts) r) args
call_args ts us args s r e =
    named_sub 0 ts us s ∙ ap (ksubs (knames ts' TKVar)) (sym e)
    ∙ subs_sub args (knames ts' TKVar) (kup (kcount ts) r) (knames ts' r)
    (λ i. subst (λ k. ksub (knames ts' TKVar) (kup k r i) ≡ knames ts' r i) (subs_count s ts) (names_up ts' r i))
  where
    ts' : KTys
    ts' = ksubs s ts

-- a code has its type under the types that its free type variables stand for
abbrev IsCode : W.CodeIs KNumbered
IsCode (KCodeAt b owes args body) m us s g =
    (n : ℕ) × (TKCode m us ≡ ksub s (TKCode owes args)) × KTyped (lift owes n) (kbody_scope owes args g) body

mutual
  sound_v : (v : KVal) (b n : ℕ) (env : KWords) (S : List KTy) (s : ℕ → KTy) (g : List KTy) (t : KTy) → KHas n g v t →
      EnvHas IsCode S env s g → Has IsCode S (kv_value b v env) (ksub s t)
  sound_v (KVar i) b n env S s g t h e = W.env_at IsCode env S s g i t e h
  sound_v (KInt m) b n env S s g t h e = (0, ap (ksub s) h)
  sound_v (KTuple vs) b n env S s g t h e = (ksubs s h.0, (0, ap (ksub s) h.1), sound_vs vs b n env S s g h.0 h.2 e)
  sound_v (KCode owes args body) b n env S s g t h e =
      (owes, ksubs (kup owes s) args, s, g, (0, ap (ksub s) h.0), (n, refl, h.2), e)

  sound_vs : (vs : KVals) (b n : ℕ) (env : KWords) (S : List KTy) (s : ℕ → KTy) (g : List KTy) (ts : KTys) →
      KHave n g vs ts → EnvHas IsCode S env s g → Have IsCode S (kvs_value b vs env) (ksubs s ts)
  sound_vs NoKVals b n env S s g ts h e = ap (ksubs s) h
  sound_vs (MoreKVals v vs) b n env S s g ts h e = (
    ksub s h.0,
    ksubs s h.1,
    ap (ksubs s) h.2,
    sound_v v b n env S s g h.0 h.3 e,
    sound_vs vs (kv_next b v) n env S s g h.1 h.4 e,
  )

abbrev SafeEnter : KEnter → Type 0
SafeEnter ke = (b : ℕ) (body : KTm) (n : ℕ) (env st : KWords) (S : List KTy) (s : ℕ → KTy) (g : List KTy) →
    KTyped n g body → EnvHas IsCode S env s g → Stored IsCode S st S → Fine (ke b body env st).end

-- a call of a code
call_code : (ke : KEnter) → SafeEnter ke → (c : KNumbered) (env vs st : KWords) (S : List KTy) (s r : ℕ → KTy)
    (ts us : KTys) (g : List KTy) → IsCode c (kcount ts) (ksubs (kup (kcount ts) s) us) r g → EnvHas IsCode S env r g →
    Have IsCode S vs (ksubs s (ksubs (knames ts TKVar) us)) → Stored IsCode S st S →
    Fine (kopen ke (kcount ts) (WCode c env) vs st).end
call_code ke f (KCodeAt b owes args body) env vs st S s r ts us g h e k w =
    fits_fine (nat_eq (kcount ts) owes && nat_eq (size vs) (kcount args)) (ke b body (onto vs (MoreWords self env)) st)
    (ap₂ (λ x y. x && y) (eq-eqb (kcount ts) owes (sym same_owes)) (eq-eqb (size vs) (kcount args) sizes))
    (f b body (lift owes h.0) (onto vs (MoreWords self env)) st S s2 (kbody_scope owes args g) h.2
    (W.args_has IsCode vs (MoreWords self env) S s2 args _ _ k same_types (
      kren (lift owes) (TKCode owes args),
      krens_scope (lift owes) g,
      refl,
      self_has,
      W.outer_has IsCode env S s2 r owes g past e,
    )) w)
  where
    self : KWord
    self = WCode (KCodeAt b owes args body) env

    same_owes : owes ≡ kcount ts
    same_owes = let q = h.1 in cc

    same_args : ksubs (kup (kcount ts) r) args ≡ ksubs (kup (kcount ts) s) us
    same_args =
        let e = h.1 in
        let q : ksubs (kup owes r) args ≡ ksubs (kup (kcount ts) s) us = cc in
        subst (λ m. ksubs (kup m r) args ≡ ksubs (kup (kcount ts) s) us) same_owes q

    s2 : ℕ → KTy
    s2 = knames (ksubs s ts) r

    same_types : ksubs s (ksubs (knames ts TKVar) us) ≡ ksubs s2 args
    same_types = call_args ts us args s r same_args

    past : (i : ℕ) → s2 (lift owes i) ≡ r i
    past i = ap (λ m. s2 (lift m i)) (same_owes ∙ sym (subs_count s ts)) ∙ with_types_past (ksubs s ts) r i

    self_has : Has IsCode S self (ksub s2 (kren (lift owes) (TKCode owes args)))
    self_has =
        let q = sub_ren (TKCode owes args) s2 (lift owes) r past in
        (owes, ksubs (kup owes r) args, r, g, (0, q), (h.0, refl, h.2), e)

    sizes : size vs ≡ kcount args
    sizes = W.have_size IsCode vs S _ k ∙ ap kcount same_types ∙ subs_count s2 args

sound_t : (ke : KEnter) → SafeEnter ke →
    (t : KTm) (b n : ℕ) (env st : KWords) (S : List KTy) (s : ℕ → KTy) (g : List KTy) → KTyped n g t →
    EnvHas IsCode S env s g → Stored IsCode S st S → Fine (kterm ke b t env st).end
sound_t ke f (KLet d t) b n env st S s g h e w =
    let r =
    sound_d IsCode NoLabels n S s g (λ v. kv_value b v env) (λ v u. kv_value (kv_next b v) u env)
    (λ v t q. sound_v v b n env S s g t q e) (λ v u t q. sound_v u (kv_next b v) n env S s g t q e) d env st h.0
    h.1 e w in
    W.value_fine IsCode (kd_value b d env st) _ S (ksub r.0 h.0) r.2
    (λ v st2 Z m k w2. sound_t ke f t (kd_next b d) (after_one (opens d) n) (MoreWords v env) st2 Z r.0
    (h.0 ∷ scope_more (opens d) g) h.2
    (h.0, scope_more (opens d) g, refl, k, W.env_more IsCode env S Z r.0 (scope_more (opens d) g) m r.1) w2)
sound_t ke f (KCall c ts vs) b n env st S s g h e w =
    let v = kv_value b c env in
    let args = kvs_value (kv_next b c) vs env in
    W.code_only IsCode {P = Fine (kopen ke (kcount ts) v args st).end} v S (kcount ts) (ksubs (kup (kcount ts) s) h.0)
    (sound_v c b n env S s g _ h.1 e)
    (λ k e2 r g2 is has own. subst (λ y. Fine (kopen ke (kcount ts) y args st).end) (sym is)
    (call_code ke f k e2 args st S s r ts h.0 g2 has own (sound_vs vs (kv_next b c) n env S s g _ h.3 e) w))
sound_t ke f (KIf v t u) b n env st S s g h e w =
    W.zero_fine IsCode (kv_value b v env) S _ _ (sound_v v b n env S s g TKInt h.0 e)
    (sound_t ke f t (kv_next b v) n env st S s g h.1 e w)
    (sound_t ke f u (kt_next (kv_next b v) t) n env st S s g h.2 e w)
sound_t ke f (KHalt v) b n env st S s g h e w =
    W.halt_fine IsCode (kv_value b v env) S (sound_v v b n env S s g TKInt h e)

safe : (n : ℕ) → SafeEnter (kenter n)
safe zero b body m env st S s g h e w = tt
safe (suc n) b body m env st S s g h e w = sound_t (kenter n) (safe n) body (suc b) m env st S s g h e w

pub never_stuck : (t : KTm) → KTyped 0 [] t → (n : ℕ) → Fine (krun n t).end
never_stuck t h n = sound_t (kenter n) (safe n) t 0 0 NoWords NoWords [] TKVar [] h refl refl
