-- How the target's scope fits the source's, and types around codes and calls.
use Rattle.std.proofs.Common.{◌≡◌, ◌<◌, ℕ, zero, suc, Bool, true, false, ◌||◌, ◌&&◌, List, [], ◌∷◌, refl, sym, ap, ◌∙◌}
use Rattle.std.proofs.Common.{subst, ap₂, arith}
use Rattle.c_rules.specs.Places.{further}
use Rattle.calc_core.specs.Ends.{lift, under, after_one}
use Rattle.k_terms.specs.K.{KTy, KTys, TKVar, NoKTys, MoreKTys, KDecl, KTm, KLet, kcount, krens_scope, opens}
use Rattle.c_rules.specs.Free.{tfree, tfree_d, tfree_t, occurs_d, occurs_t}
use Rattle.k_terms.specs.Types.{kd_type}
use Rattle.c_terms.specs.C.{CTy, CTys, TCVar, TCTuple, NoCTys, MoreCTys}
use Rattle.k_terms.specs.Typing.{KIn, KField, KGives, ksubs, knames}
use Rattle.c_terms.specs.Typing.{CIn, CIns, CField, cren, crens, cup, csub, csubs, names, crens_scope}
use Rattle.c_rules.specs.Close.{Scope, ctype, ctypes, picked_tvars, pick_type, picked_types, tfree_kept, keeps}
use Rattle.c_rules.specs.Close.{env_type}
use Rattle.c_rules.specs.Close.{with_var, open_if, with_decl, in_call}
use Rattle.c_laws.proofs.Envs.{or_left, or_right}
use Rattle.c_laws.proofs.Types.{ren_ctype, sub_ctype, gen_ctypes, names_gen}
use Rattle.c_laws.proofs.TypeEnvs.{AgreeT, ScopeIn, agreeT_further, agreeT_fewer, agreeT_ren, agreeT_open}
use Rattle.c_laws.proofs.Ranges.{or_split, scope_in_kren, in_ctype, kept_fewer, kept_back, lift_back, d_in}
use Rattle.k_terms.proofs.Types.{d_type}
use Rattle.c_laws.proofs.Ranges.{d_free}
use Rattle.c_laws.proofs.Meaning.{ctypes_count}
use Rattle.std.proofs.lemmas.Bool.{and_parts as and_split}
use Rattle.calc_core.proofs.Substituting.{with_types_past as names_past}

-- the target's scope fits the live variables
pub record Fits (live tlive : ℕ → Bool) (s : Scope) (n : ℕ) (cg : List CTy) : Type 0 where
  pub scoped : ScopeIn s.tcount s.types
  pub agree : AgreeT live s.vars s.types s.tvar cg
  pub below : (j : ℕ) → tlive j || tfree_kept j live s.types ≡ true → s.tvar j < n

pub fewer : (live few tlive tfew : ℕ → Bool) (s : Scope) (n : ℕ) (cg : List CTy) →
    ((i : ℕ) → few i ≡ true → live i ≡ true) → ((j : ℕ) → tfew j ≡ true → tlive j ≡ true) → Fits live tlive s n cg →
    Fits few tfew s n cg
fewer live few tlive tfew s n cg f g h = record {
  scoped = h.scoped;
  agree = agreeT_fewer live few s.vars s.types s.tvar cg f h.agree;
  below = λ j e.
      h.below j (or_split (tfew j) (tfree_kept j few s.types)
      (λ d. or_left (tlive j) (tfree_kept j live s.types) (g j d))
      (λ d. or_right (tlive j) (tfree_kept j live s.types) (kept_fewer s.types live few j f d)) e);
}

-- lists of types
pub pick_in : (n : ℕ) (k : Bool) (t : CTy) (ts : CTys) → (k ≡ true → CIn n t) → CIns n ts → CIns n (pick_type k t ts)
pick_in n true t ts f h = (f refl, h)
pick_in n false t ts f h = h

pub in_picked : (keep : ℕ → Bool) (g : List KTy) (r : ℕ → ℕ) (n : ℕ) (acc : CTys) →
    ((j : ℕ) → tfree_kept j keep g ≡ true → r j < n) → CIns n acc → CIns n (picked_types keep (ctype r) g acc)
in_picked keep [] r n acc f h = h
in_picked keep (t ∷ g) r n acc f h =
    in_picked (λ i. keep (suc i)) g r n _
    (λ j e. f j (or_right (keep 0 && tfree j t) (tfree_kept j (λ i. keep (suc i)) g) e))
    (pick_in n (keep 0) (ctype r t) acc
    (λ k. in_ctype t r n
    (λ j e. f j (or_left (keep 0 && tfree j t) (tfree_kept j (λ i. keep (suc i)) g) (ap₂ (λ a b. a && b) k e))))
    h)

pub in_picked_tvars : (keep : ℕ → Bool) (r : ℕ → ℕ) (m n : ℕ) (acc : CTys) → ((j : ℕ) → keep j ≡ true → r j < n) →
    CIns n acc → CIns n (picked_tvars keep r m acc)
in_picked_tvars keep r zero n acc f h = h
in_picked_tvars keep r (suc m) n acc f h =
    in_picked_tvars (λ i. keep (suc i)) (λ i. r (suc i)) m n _ (λ j e. f (suc j) e)
    (pick_in n (keep 0) (TCVar (r 0)) acc (λ k. f 0 k) h)

pick_sub : (s : ℕ → CTy) (k : Bool) (x y : CTy) (acc : CTys) → (k ≡ true → csub s x ≡ y) →
    csubs s (pick_type k x acc) ≡ pick_type k y (csubs s acc)
pick_sub s true x y acc f = ap (λ z. MoreCTys z (csubs s acc)) (f refl)
pick_sub s false x y acc f = refl

pub sub_picked : (keep : ℕ → Bool) (g : List KTy) (s : ℕ → CTy) (q p : ℕ → ℕ) (acc : CTys) →
    ((j : ℕ) → tfree_kept j keep g ≡ true → s (q j) ≡ TCVar (p j)) →
    csubs s (picked_types keep (ctype q) g acc) ≡ picked_types keep (ctype p) g (csubs s acc)
sub_picked keep [] s q p acc f = refl
sub_picked keep (t ∷ g) s q p acc f =
    sub_picked (λ i. keep (suc i)) g s q p _
    (λ j e. f j (or_right (keep 0 && tfree j t) (tfree_kept j (λ i. keep (suc i)) g) e))
    ∙ ap (picked_types (λ i. keep (suc i)) (ctype p) g)
    (pick_sub s (keep 0) (ctype q t) (ctype p t) acc
    (λ k. sub_ctype t s q p
    (λ j e. f j (or_left (keep 0 && tfree j t) (tfree_kept j (λ i. keep (suc i)) g) (ap₂ (λ a b. a && b) k e)))))

pick_ren : (q : ℕ → ℕ) (k : Bool) (x y : CTy) (acc : CTys) → cren q x ≡ y →
    crens q (pick_type k x acc) ≡ pick_type k y (crens q acc)
pick_ren q true x y acc e = ap (λ z. MoreCTys z (crens q acc)) e
pick_ren q false x y acc e = refl

ren_picked : (keep : ℕ → Bool) (g : List KTy) (q r p : ℕ → ℕ) (acc : CTys) → ((i : ℕ) → q (r i) ≡ p i) →
    crens q (picked_types keep (ctype r) g acc) ≡ picked_types keep (ctype p) g (crens q acc)
ren_picked keep [] q r p acc f = refl
ren_picked keep (t ∷ g) q r p acc f =
    ren_picked (λ i. keep (suc i)) g q r p _ f
    ∙ ap (picked_types (λ i. keep (suc i)) (ctype p) g)
    (pick_ren q (keep 0) (ctype r t) (ctype p t) acc (ren_ctype t q r p f))

pub cup_env : (m : ℕ) (s : ℕ → CTy) (i : ℕ) (r : ℕ → ℕ) (args : KTys) (body : KTm) (g : List KTy) →
    s i ≡ env_type r args body g → cup m s (lift m i) ≡ env_type (λ j. lift m (r j)) args body g
cup_env zero s i r args body g e = e
cup_env (suc m) s i r args body g e =
    ap (cren suc) (cup_env m s i r args body g e)
    ∙ ap TCTuple (ren_picked (keeps args body) g suc (λ j. lift m (r j)) (λ j. suc (lift m (r j))) NoCTys (λ j. refl))

-- under one more variable, and a type variable where there is one
abbrev pub cscope_more : Bool → List CTy → List CTy
cscope_more true cg = crens_scope suc cg
cscope_more false cg = cg

fits_more : (k : Bool) (t : KTy) (live tlive : ℕ → Bool) (s : Scope) (n : ℕ) (cg : List CTy) →
    KIn (after_one k s.tcount) t → ScopeIn s.tcount s.types → AgreeT (λ i. live (suc i)) s.vars s.types s.tvar cg →
    ((j : ℕ) → tlive (after_one k j) ||
    ((live 0 && tfree (after_one k j) t) || tfree_kept j (λ i. live (suc i)) s.types) ≡ true → s.tvar j < n) →
    Fits live tlive (with_var t (open_if k s)) (after_one k n) (ctype (open_if k s).tvar t ∷ cscope_more k cg)
fits_more false t live tlive s n cg i c a f = record {
  scoped = (i, c);
  agree = (λ _. refl, agreeT_further (λ i. live (suc i)) s.vars s.types s.tvar _ cg a);
  below = f;
}
fits_more true t live tlive s n cg i c a f = record {
  scoped = (i, scope_in_kren s.types suc s.tcount (suc s.tcount) (λ j h. omega (arith, h)) c);
  agree = (
    λ _. refl,
    agreeT_further (λ i. live (suc i)) s.vars (krens_scope suc s.types) (under 1 s.tvar) _
        (crens_scope suc cg) (agreeT_open (λ i. live (suc i)) s.vars s.types s.tvar cg a),
  );
  below = below_of;
}
  where
    below_of : (j : ℕ) →
        tlive j || ((live 0 && tfree j t) || tfree_kept j (λ i. live (suc i)) (krens_scope suc s.types)) ≡ true →
        under 1 s.tvar j < suc n
    below_of zero e = omega arith
    below_of (suc j) e =
        let b = f j (or_split (tlive (suc j))
        ((live 0 && tfree (suc j) t) || tfree_kept (suc j) (λ i. live (suc i)) (krens_scope suc s.types))
        (λ d. or_left (tlive (suc j)) _ d)
        (λ d. or_right (tlive (suc j)) _
        (or_split (live 0 && tfree (suc j) t) (tfree_kept (suc j) (λ i. live (suc i)) (krens_scope suc s.types))
        (λ c. or_left (live 0 && tfree (suc j) t) _ c)
        (λ c. or_right (live 0 && tfree (suc j) t) _
        (kept_back s.types (λ i. live (suc i)) suc j (suc j) (λ i q. lift_back 1 i j q) c)) d)) e) in
        omega (arith, b)

pub fits_let : (d : KDecl) (t : KTm) (s : Scope) (n : ℕ) (cg : List CTy) (u : KTy) → KGives s.tcount s.types d u →
    Fits (λ i. occurs_t i (KLet d t)) (λ j. tfree_t j (KLet d t)) s n cg →
    Fits (λ i. occurs_t i t) (λ j. tfree_t j t) (with_decl d s) (after_one (opens d) n)
    (ctype (open_if (opens d) s).tvar (kd_type s.types d) ∷ cscope_more (opens d) cg)
fits_let d t s n cg u g h =
    fits_more (opens d) (kd_type s.types d) (λ i. occurs_t i t) (λ j. tfree_t j t) s n cg
    (subst (KIn (after_one (opens d) s.tcount)) (sym (d_type d s.tcount s.types u g))
    (d_in d s.tcount s.types u h.scoped g)) h.scoped
    (agreeT_fewer (λ i. occurs_t i (KLet d t)) (λ i. occurs_t (suc i) t) s.vars s.types s.tvar cg
    (λ i. or_right (occurs_d i d) (occurs_t (suc i) t)) h.agree)
    (λ j e. h.below j (
    let T = tfree_t (after_one (opens d) j) t in
    or_split T ((occurs_t 0 t && tfree (after_one (opens d) j) (kd_type s.types d)) || tfree_kept j
    (λ i. occurs_t (suc i) t) s.types)
    (λ c. or_left (tfree_d j d || T) _ (or_right (tfree_d j d) T c))
    (λ c. or_split (occurs_t 0 t && tfree (after_one (opens d) j) (kd_type s.types d))
    (tfree_kept j (λ i. occurs_t (suc i) t) s.types)
    (λ b. or_split (tfree_d j d) (tfree_kept j (λ i. occurs_d i d) s.types)
    (λ a. or_left (tfree_d j d || T) _ (or_left (tfree_d j d) T a))
    (λ a. or_right (tfree_d j d || T) _
    (kept_fewer s.types (λ i. occurs_t i (KLet d t)) (λ i. occurs_d i d) j
    (λ i. or_left (occurs_d i d) (occurs_t (suc i) t)) a))
    (d_free d s.types j (and_split (occurs_t 0 t) (tfree (after_one (opens d) j) (kd_type s.types d)) b).1))
    (λ b. or_right (tfree_d j d || T) _
    (kept_fewer s.types (λ i. occurs_t i (KLet d t)) (λ i. occurs_t (suc i) t) j
    (λ i. or_right (occurs_d i d) (occurs_t (suc i) t)) b)) c) e))

-- under the names that a call makes
pub fits_call : (live tlive : ℕ → Bool) (s : Scope) (n : ℕ) (cg : List CTy) (x y z : CTy) → Fits live tlive s n cg →
    Fits live tlive (in_call s) (suc n) (z ∷ y ∷ x ∷ crens_scope suc cg)
fits_call live tlive s n cg x y z h = record {
  scoped = h.scoped;
  agree = agreeT_further live (further (further s.vars)) s.types _ z _
      (agreeT_further live (further s.vars) s.types _ y _
      (agreeT_further live s.vars s.types _ x _ (agreeT_ren live s.vars s.types s.tvar cg h.agree)));
  below = λ j e. let b = h.below j e in omega (arith, b);
}

pub field_has : (i : ℕ) (ts : KTys) (t : KTy) (r : ℕ → ℕ) → KField i ts t → CField i (ctypes r ts) (ctype r t)
field_has i NoKTys t r h = absurd h
field_has zero (MoreKTys u us) t r h = absurd h
field_has (suc zero) (MoreKTys u us) t r h = ap (ctype r) h
field_has (suc (suc i)) (MoreKTys u us) t r h = field_has (suc i) us t r h

-- the types that a call's arguments must have
pub call_types : (r : ℕ → ℕ) (ts us : KTys) →
    csubs (names (ctypes (λ i. suc (r i)) ts) TCVar)
    (MoreCTys (TCVar (lift (kcount ts) 0)) (ctypes (under (kcount ts) (λ i. suc (r i))) us))
    ≡ MoreCTys (TCVar 0) (ctypes (λ i. suc (r i)) (ksubs (knames ts TKVar) us))
call_types r ts us = ap₂ MoreCTys
    (ap (λ k. names (ctypes (λ i. suc (r i)) ts) TCVar (lift k 0)) (sym (ctypes_count (λ i. suc (r i)) ts))
    ∙ names_past (ctypes (λ i. suc (r i)) ts) TCVar 0)
    (gen_ctypes us (names (ctypes (λ i. suc (r i)) ts) TCVar) (under (kcount ts) (λ i. suc (r i))) (λ i. suc (r i))
    (knames ts TKVar) (names_gen ts TCVar (λ i. suc (r i)) (λ i. suc (r i)) TKVar (λ i. refl)))
