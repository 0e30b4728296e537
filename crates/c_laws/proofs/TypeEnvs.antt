-- Typed scopes and places.
use Rattle.std.proofs.Common.{◌≡◌, ◌+◌, ℕ, zero, suc, Bool, true, false, List, [], ◌∷◌, ◌++◌, Option, Some, None, refl}
use Rattle.std.proofs.Common.{sym, ap, ◌∙◌, subst, arith}
use Rattle.c_rules.specs.Places.{Places, further, place, from_on, kept_places, kept_count, keep_one}
use Rattle.calc_core.specs.Ends.{after_one, lift, under}
use Rattle.k_terms.specs.K.{KTy, KTys, NoKTys, MoreKTys, kcount, kren, krens_scope, kargs_onto}
use Rattle.c_terms.specs.C.{CTy, CTys, TCTuple, NoCTys, MoreCTys, ccount, CVals, CTm}
use Rattle.k_terms.specs.Typing.{KIn, KAt}
use Rattle.c_terms.specs.Typing.{cren, crens_scope, CAt, CField, cargs_onto, CHas, CHave, CTyped}
use Rattle.c_rules.specs.Close.{ctype, ctypes, pick_type, picked_types, pick_one, picked, var_value, projections}
use Rattle.c_laws.proofs.Types.{ren_ctype, ctype_ren, pick_count as count_step}
use Rattle.calc_core.proofs.Lifts.{lift_suc}

abbrev pub CVarAt : Option ℕ → CTy → List CTy → Type 0
CVarAt None t cg = ⊥
CVarAt (Some j) t cg = CAt cg j t

-- each live variable's place has its translated type
abbrev pub AgreeT : (ℕ → Bool) → Places → List KTy → (ℕ → ℕ) → List CTy → Type 0
AgreeT live [] [] r cg = Unit {0}
AgreeT live [] (t ∷ g) r cg = ⊥
AgreeT live (p ∷ ps) [] r cg = ⊥
AgreeT live (p ∷ ps) (t ∷ g) r cg = (live 0 ≡ true → CVarAt p (ctype r t) cg) × AgreeT (λ i. live (suc i)) ps g r cg

abbrev pub SameLength : Places → List KTy → Type 0
SameLength [] [] = Unit {0}
SameLength [] (t ∷ g) = ⊥
SameLength (p ∷ ps) [] = ⊥
SameLength (p ∷ ps) (t ∷ g) = SameLength ps g

abbrev pub ScopeIn : ℕ → List KTy → Type 0
ScopeIn n [] = Unit {0}
ScopeIn n (t ∷ g) = KIn n t × ScopeIn n g

pub same_length : (live : ℕ → Bool) (ps : Places) (g : List KTy) (r : ℕ → ℕ) (cg : List CTy) → AgreeT live ps g r cg →
    SameLength ps g
same_length live [] [] r cg h = tt
same_length live [] (t ∷ g) r cg h = absurd h
same_length live (p ∷ ps) [] r cg h = absurd h
same_length live (p ∷ ps) (t ∷ g) r cg h = same_length (λ i. live (suc i)) ps g r cg h.1

var_has : (n : ℕ) (p : Option ℕ) (t : CTy) (cg : List CTy) → CVarAt p t cg → CHas n cg (var_value p) t
var_has n None t cg h = absurd h
var_has n (Some j) t cg h = h

pub agreeT_at : (n : ℕ) (live : ℕ → Bool) (ps : Places) (g : List KTy) (r : ℕ → ℕ) (cg : List CTy) (i : ℕ) (t : KTy) →
    AgreeT live ps g r cg → live i ≡ true → KAt g i t → CHas n cg (var_value (place ps i)) (ctype r t)
agreeT_at n live [] [] r cg i t h e a = absurd a
agreeT_at n live [] (u ∷ g) r cg i t h e a = absurd h
agreeT_at n live (p ∷ ps) [] r cg i t h e a = absurd a
agreeT_at n live (p ∷ ps) (u ∷ g) r cg zero t h e a =
    subst (λ x. CHas n cg (var_value p) (ctype r x)) (sym a) (var_has n p (ctype r u) cg (h.0 e))
agreeT_at n live (p ∷ ps) (u ∷ g) r cg (suc i) t h e a = agreeT_at n (λ j. live (suc j)) ps g r cg i t h.1 e a

pub agreeT_further : (live : ℕ → Bool) (ps : Places) (g : List KTy) (r : ℕ → ℕ) (c : CTy) (cg : List CTy) →
    AgreeT live ps g r cg → AgreeT live (further ps) g r (c ∷ cg)
agreeT_further live [] [] r c cg h = tt
agreeT_further live [] (t ∷ g) r c cg h = absurd h
agreeT_further live (p ∷ ps) [] r c cg h = absurd h
agreeT_further live (None ∷ ps) (t ∷ g) r c cg h = (h.0, agreeT_further (λ i. live (suc i)) ps g r c cg h.1)
agreeT_further live (Some j ∷ ps) (t ∷ g) r c cg h = (h.0, agreeT_further (λ i. live (suc i)) ps g r c cg h.1)

pub agreeT_fewer : (live few : ℕ → Bool) (ps : Places) (g : List KTy) (r : ℕ → ℕ) (cg : List CTy) →
    ((i : ℕ) → few i ≡ true → live i ≡ true) → AgreeT live ps g r cg → AgreeT few ps g r cg
agreeT_fewer live few [] [] r cg f h = tt
agreeT_fewer live few [] (t ∷ g) r cg f h = absurd h
agreeT_fewer live few (p ∷ ps) [] r cg f h = absurd h
agreeT_fewer live few (p ∷ ps) (t ∷ g) r cg f h =
    (λ e. h.0 (f 0 e), agreeT_fewer (λ i. live (suc i)) (λ i. few (suc i)) ps g r cg (λ i. f (suc i)) h.1)

cat_ren : (cg : List CTy) (j : ℕ) (q : ℕ → ℕ) (t : CTy) → CAt cg j t → CAt (crens_scope q cg) j (cren q t)
cat_ren [] j q t h = absurd h
cat_ren (u ∷ cg) zero q t h = ap (cren q) h
cat_ren (u ∷ cg) (suc j) q t h = cat_ren cg j q t h

varat_ren : (p : Option ℕ) (cg : List CTy) (t : KTy) (r : ℕ → ℕ) → CVarAt p (ctype r t) cg →
    CVarAt p (ctype (λ i. suc (r i)) t) (crens_scope suc cg)
varat_ren None cg t r h = absurd h
varat_ren (Some j) cg t r h =
    subst (CAt (crens_scope suc cg) j) (ren_ctype t suc r (λ i. suc (r i)) (λ i. refl))
    (cat_ren cg j suc (ctype r t) h)

-- under one more type variable
pub agreeT_ren : (live : ℕ → Bool) (ps : Places) (g : List KTy) (r : ℕ → ℕ) (cg : List CTy) → AgreeT live ps g r cg →
    AgreeT live ps g (λ i. suc (r i)) (crens_scope suc cg)
agreeT_ren live [] [] r cg h = tt
agreeT_ren live [] (t ∷ g) r cg h = absurd h
agreeT_ren live (p ∷ ps) [] r cg h = absurd h
agreeT_ren live (p ∷ ps) (t ∷ g) r cg h =
    (λ e. varat_ren p cg t r (h.0 e), agreeT_ren (λ i. live (suc i)) ps g r cg h.1)

-- the same where the source has that type variable too
varat_open : (p : Option ℕ) (cg : List CTy) (t : KTy) (r : ℕ → ℕ) → CVarAt p (ctype r t) cg →
    CVarAt p (ctype (under 1 r) (kren suc t)) (crens_scope suc cg)
varat_open p cg t r h =
    subst (λ x. CVarAt p x (crens_scope suc cg)) (sym (ctype_ren t (under 1 r) suc (λ i. suc (r i)) (λ i. refl)))
    (varat_ren p cg t r h)

pub agreeT_open : (live : ℕ → Bool) (ps : Places) (g : List KTy) (r : ℕ → ℕ) (cg : List CTy) → AgreeT live ps g r cg →
    AgreeT live ps (krens_scope suc g) (under 1 r) (crens_scope suc cg)
agreeT_open live [] [] r cg h = tt
agreeT_open live [] (t ∷ g) r cg h = absurd h
agreeT_open live (p ∷ ps) [] r cg h = absurd h
agreeT_open live (p ∷ ps) (t ∷ g) r cg h =
    (λ e. varat_open p cg t r (h.0 e), agreeT_open (λ i. live (suc i)) ps g r cg h.1)

-- a tuple of the kept variables
picked_step : (n : ℕ) (cg : List CTy) (k : Bool) (p : Option ℕ) (t : CTy) (vs : CVals) (ts : CTys) →
    (k ≡ true → CVarAt p t cg) → CHave n cg vs ts → CHave n cg (pick_one k p vs) (pick_type k t ts)
picked_step n cg true p t vs ts h q = (t, ts, refl, var_has n p t cg (h refl), q)
picked_step n cg false p t vs ts h q = q

pub picked_have : (n : ℕ) (cg : List CTy) (keep : ℕ → Bool) (ps : Places) (g : List KTy) (r : ℕ → ℕ) (vs : CVals)
    (ts : CTys) → AgreeT keep ps g r cg → CHave n cg vs ts →
    CHave n cg (picked keep ps vs) (picked_types keep (ctype r) g ts)
picked_have n cg keep [] [] r vs ts h q = q
picked_have n cg keep [] (t ∷ g) r vs ts h q = absurd h
picked_have n cg keep (p ∷ ps) [] r vs ts h q = absurd h
picked_have n cg keep (p ∷ ps) (t ∷ g) r vs ts h q =
    picked_have n cg (λ i. keep (suc i)) ps g r (pick_one (keep 0) p vs) (pick_type (keep 0) (ctype r t) ts) h.1
    (picked_step n cg (keep 0) p (ctype r t) vs ts h.0 q)

-- the kept types, innermost first
abbrev pub keep_type : Bool → CTy → List CTy → List CTy
keep_type true t g = t ∷ g
keep_type false t g = g

abbrev pub kept_types : (ℕ → Bool) → (KTy → CTy) → List KTy → List CTy
kept_types keep f [] = []
kept_types keep f (t ∷ g) = keep_type (keep 0) (f t) (kept_types (λ i. keep (suc i)) f g)

onto_step : (k : Bool) (t : CTy) (acc : CTys) (g cg : List CTy) →
    cargs_onto (pick_type k t acc) (g ++ cg) ≡ cargs_onto acc (keep_type k t g ++ cg)
onto_step true t acc g cg = refl
onto_step false t acc g cg = refl

pub onto_kept : (keep : ℕ → Bool) (f : KTy → CTy) (g : List KTy) (acc : CTys) (cg : List CTy) →
    cargs_onto (picked_types keep f g acc) cg ≡ cargs_onto acc (kept_types keep f g ++ cg)
onto_kept keep f [] acc cg = refl
onto_kept keep f (t ∷ g) acc cg =
    onto_kept (λ i. keep (suc i)) f g (pick_type (keep 0) (f t) acc) cg
    ∙ onto_step (keep 0) (f t) acc (kept_types (λ i. keep (suc i)) f g) cg

abbrev pub tsize : List CTy → ℕ
tsize [] = 0
tsize (t ∷ g) = suc (tsize g)

keep_size : (k : Bool) (t : CTy) (g : List CTy) → tsize (keep_type k t g) ≡ after_one k (tsize g)
keep_size true t g = refl
keep_size false t g = refl

pub kept_tsize : (keep : ℕ → Bool) (f : KTy → CTy) (ps : Places) (g : List KTy) → SameLength ps g →
    kept_count keep ps ≡ tsize (kept_types keep f g)
kept_tsize keep f [] [] h = refl
kept_tsize keep f [] (t ∷ g) h = absurd h
kept_tsize keep f (p ∷ ps) [] h = absurd h
kept_tsize keep f (p ∷ ps) (t ∷ g) h =
    ap (after_one (keep 0)) (kept_tsize (λ i. keep (suc i)) f ps g h)
    ∙ sym (keep_size (keep 0) (f t) (kept_types (λ i. keep (suc i)) f g))

pub count_move : (k : Bool) (a b : ℕ) → a + after_one k b ≡ after_one k a + b
count_move true a b = omega arith
count_move false a b = refl

pub kept_ccount : (keep : ℕ → Bool) (f : KTy → CTy) (ps : Places) (g : List KTy) (acc : CTys) → SameLength ps g →
    ccount (picked_types keep f g acc) ≡ kept_count keep ps + ccount acc
kept_ccount keep f [] [] acc h = omega arith
kept_ccount keep f [] (t ∷ g) acc h = absurd h
kept_ccount keep f (p ∷ ps) [] acc h = absurd h
kept_ccount keep f (p ∷ ps) (t ∷ g) acc h =
    kept_ccount (λ i. keep (suc i)) f ps g (pick_type (keep 0) (f t) acc) h
    ∙ ap (λ x. kept_count (λ i. keep (suc i)) ps + x) (count_step (keep 0) (f t) acc)
    ∙ count_move (keep 0) (kept_count (λ i. keep (suc i)) ps) (ccount acc)

-- projections
abbrev pub tdrop : ℕ → CTys → CTys
tdrop zero ts = ts
tdrop (suc n) NoCTys = NoCTys
tdrop (suc n) (MoreCTys t ts) = tdrop n ts

pub tdrop_step : (j : ℕ) (us : CTys) (x : CTy) (rest : CTys) → tdrop j us ≡ MoreCTys x rest →
    CField (suc j) us x × (tdrop (suc j) us ≡ rest)
tdrop_step zero NoCTys x rest e = absurd cc
tdrop_step zero (MoreCTys u us) x rest e = (cc, cc)
tdrop_step (suc j) NoCTys x rest e = absurd cc
tdrop_step (suc j) (MoreCTys u us) x rest e = tdrop_step j us x rest e

pub good_projections : (n : ℕ) (rest us : CTys) (j e : ℕ) (t : CTm) (cg : List CTy) → CAt cg e (TCTuple us) →
    tdrop j us ≡ rest → CTyped n (cargs_onto rest cg) t → CTyped n cg (projections (ccount rest) (suc j) e t)
good_projections n NoCTys us j e t cg h d q = q
good_projections n (MoreCTys x rest) us j e t cg h d q =
    let p = tdrop_step j us x rest d in
    (x, (us, h, p.0), good_projections n rest us (suc j) (suc e) t (x ∷ cg) h p.1 q)

-- lookups
pub at_append : (g cg : List CTy) (i : ℕ) (t : CTy) → CAt cg i t → CAt (g ++ cg) (lift (tsize g) i) t
at_append [] cg i t h = h
at_append (u ∷ g) cg i t h = at_append g cg i t h

pub at_onto : (ts : CTys) (cg : List CTy) (i : ℕ) (t : CTy) → CAt cg i t → CAt (cargs_onto ts cg) (lift (ccount ts) i) t
at_onto NoCTys cg i t h = h
at_onto (MoreCTys u ts) cg i t h =
    subst (λ k. CAt (cargs_onto ts (u ∷ cg)) k t) (lift_suc (ccount ts) i) (at_onto ts (u ∷ cg) (suc i) t h)

abbrev pub gdrop : ℕ → List CTy → List CTy
gdrop zero g = g
gdrop (suc n) [] = []
gdrop (suc n) (t ∷ g) = gdrop n g

pub gdrop_step : (j : ℕ) (cg : List CTy) (x : CTy) (rest : List CTy) → gdrop j cg ≡ x ∷ rest →
    CAt cg j x × (gdrop (suc j) cg ≡ rest)
gdrop_step zero [] x rest e = absurd cc
gdrop_step zero (u ∷ cg) x rest e = (cc, cc)
gdrop_step (suc j) [] x rest e = absurd cc
gdrop_step (suc j) (u ∷ cg) x rest e = gdrop_step j cg x rest e

pub gdrop_append : (g cg : List CTy) → gdrop (tsize g) (g ++ cg) ≡ cg
gdrop_append [] cg = refl
gdrop_append (t ∷ g) cg = gdrop_append g cg

-- the places of the kept variables, whose types f gives
kept_stepT : (k : Bool) (keep : ℕ → Bool) (ps : Places) (g : List KTy) (r : ℕ → ℕ) (x y : CTy) (gs rest cg : List CTy)
    (o : ℕ) → x ≡ y → ((j : ℕ) → gdrop j cg ≡ gs ++ rest → AgreeT keep (kept_places j keep ps) g r cg) →
    gdrop o cg ≡ keep_type k x gs ++ rest → (k ≡ true → CVarAt (keep_one k o) y cg)
    × AgreeT keep (kept_places (after_one k o) keep ps) g r cg
kept_stepT true keep ps g r x y gs rest cg o q f e =
    let d = gdrop_step o cg x (gs ++ rest) e in
    (λ _. subst (CAt cg o) q d.0, f (suc o) d.1)
kept_stepT false keep ps g r x y gs rest cg o q f e = (λ h. absurd cc, f o e)

pub kept_agreeT : (keep : ℕ → Bool) (ps : Places) (g : List KTy) (q r p : ℕ → ℕ) (rest cg : List CTy) (o : ℕ) →
    SameLength ps g → ((i : ℕ) → r (q i) ≡ p i) → gdrop o cg ≡ kept_types keep (ctype p) g ++ rest →
    AgreeT keep (kept_places o keep ps) (krens_scope q g) r cg
kept_agreeT keep [] [] q r p rest cg o h f e = tt
kept_agreeT keep [] (t ∷ g) q r p rest cg o h f e = absurd h
kept_agreeT keep (x ∷ ps) [] q r p rest cg o h f e = absurd h
kept_agreeT keep (x ∷ ps) (t ∷ g) q r p rest cg o h f e =
    kept_stepT (keep 0) (λ i. keep (suc i)) ps (krens_scope q g) r (ctype p t) (ctype r (kren q t))
    (kept_types (λ i. keep (suc i)) (ctype p) g) rest cg o (sym (ctype_ren t r q p f))
    (λ j d. kept_agreeT (λ i. keep (suc i)) ps g q r p rest cg j h f d) e

abbrev pub ctypes_of : (ℕ → ℕ) → List KTy → List CTy
ctypes_of r [] = []
ctypes_of r (t ∷ g) = ctype r t ∷ ctypes_of r g

abbrev pub glength : List KTy → ℕ
glength [] = 0
glength (t ∷ g) = suc (glength g)

pub kargs_append : (ts : KTys) (g h : List KTy) → kargs_onto ts (g ++ h) ≡ kargs_onto ts g ++ h
kargs_append NoKTys g h = refl
kargs_append (MoreKTys t ts) g h = kargs_append ts (t ∷ g) h

pub cargs_of : (r : ℕ → ℕ) (ts : KTys) (g : List KTy) (cg : List CTy) →
    cargs_onto (ctypes r ts) (ctypes_of r g ++ cg) ≡ ctypes_of r (kargs_onto ts g) ++ cg
cargs_of r NoKTys g cg = refl
cargs_of r (MoreKTys t ts) g cg = cargs_of r ts (t ∷ g) cg

pub kargs_length : (ts : KTys) (g : List KTy) → glength (kargs_onto ts g) ≡ kcount ts + glength g
kargs_length NoKTys g = omega arith
kargs_length (MoreKTys t ts) g = omega (arith, kargs_length ts (t ∷ g))

pub args_agreeT : (live : ℕ → Bool) (ts g : List KTy) (r : ℕ → ℕ) (base cg : List CTy) (o : ℕ) (ps : Places) →
    gdrop o cg ≡ ctypes_of r ts ++ base → AgreeT (λ i. live (lift (glength ts) i)) ps g r cg →
    AgreeT live (from_on o (glength ts) ps) (ts ++ g) r cg
args_agreeT live [] g r base cg o ps e h = h
args_agreeT live (t ∷ ts) g r base cg o ps e h =
    let d = gdrop_step o cg (ctype r t) (ctypes_of r ts ++ base) e in
    (λ _. d.0, args_agreeT (λ i. live (suc i)) ts g r base cg (suc o) ps d.1 h)
