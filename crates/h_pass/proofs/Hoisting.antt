-- Hoisting keeps the meaning.
use Rattle.std.proofs.Common.{pos, ◌≡◌, ℕ, zero, suc, ◌+◌, nat_eq, [], ◌∷◌, ◌++◌, length}
use Rattle.std.proofs.Common.{Some, refl, sym, ap, ◌∙◌, subst, subst₂, arith, append_assoc, length-append}
use Rattle.std.proofs.Common.{eqb-true}
use Rattle.calc_core.proofs.Lifts.{lift_suc, lift_zero}
use Rattle.calc_core.specs.Ends.{enters, if_fits, lift}
use Rattle.c_terms.specs.C.{CApply, CArith, CCall, CCell, CCode, CDecl, CGet, CHalt, CIf, CInt, CLet, CName, CPack}
use Rattle.c_terms.specs.C.{CProj, CSet, CTm, CTuple, CTys, CUnpack, CVal, CVals, CVar, MoreCVals, NoCVals, ccount}
use Rattle.c_terms.specs.C.{cd_next, ct_next, cv_next, cvs_next}
use Rattle.calc_core.specs.Words.{WInt, WTuple, WCode, WCell, NoWords, MoreWords, at, size, onto}
use Rattle.c_terms.specs.Meaning.{CNumbered, CCodeAt, CWord, CWords, cv_value, cvs_value, cd_value, CEnter, copen}
use Rattle.c_terms.specs.Meaning.{cterm, center}
use Rattle.c_terms.specs.Meaning.{crun}
use Rattle.h_terms.specs.H.{HBlk, HBlks, block_at}
use Rattle.h_terms.specs.Meaning.{HWord, HWords, hv_value, hvs_value, hd_value, HEnter, with_block, hopen, hterm}
use Rattle.h_terms.specs.Meaning.{henter, hrun}
use Rattle.h_pass.proofs.Words.{MadeHoistsTo, AllHoistTo, HoistsTo, all_size, compute_hoists, get_hoists, given_hoists}
use Rattle.h_pass.proofs.Words.{halt_hoists, more_hoists, project_hoists, set_hoists, value_hoists, zero_hoists}
use Rattle.h_pass.specs.Hoist.{Code, Lost, Near, Nobody, Own, Self, Spot, block_of, blocks_d, blocks_of, blocks_t}
use Rattle.h_pass.specs.Hoist.{blocks_v, blocks_vs, deeper, hoist_d, hoist_t, hoist_v, hoist_vs, main_of, spot}
use Rattle.h_pass.specs.Hoist.{spot_value}
use Rattle.calc_core.proofs.Ends.{fits_step}

-- the program has the blocks of a tree whose codes are numbered from b on
abbrev mutual
  pub HoldsV : HBlks → ℕ → CVal → Type 0
  HoldsV ks b (CVar i) = Unit {0}
  HoldsV ks b (CInt n) = Unit {0}
  HoldsV ks b (CTuple vs) = HoldsVs ks b vs
  HoldsV ks b (CCode owes args body) = (block_at ks b ≡ Some (block_of b owes args body)) × HoldsT ks (suc b) body
  HoldsV ks b (CApply v ts) = HoldsV ks b v
  HoldsV ks b (CPack h v s) = HoldsV ks b v

  pub HoldsVs : HBlks → ℕ → CVals → Type 0
  HoldsVs ks b NoCVals = Unit {0}
  HoldsVs ks b (MoreCVals v vs) = HoldsV ks b v × HoldsVs ks (cv_next b v) vs

  pub HoldsD : HBlks → ℕ → CDecl → Type 0
  HoldsD ks b (CName v) = HoldsV ks b v
  HoldsD ks b (CProj i v) = HoldsV ks b v
  HoldsD ks b (CArith op v w) = HoldsV ks b v × HoldsV ks (cv_next b v) w
  HoldsD ks b (CUnpack v) = HoldsV ks b v
  HoldsD ks b (CCell v) = HoldsV ks b v
  HoldsD ks b (CGet v) = HoldsV ks b v
  HoldsD ks b (CSet v w) = HoldsV ks b v × HoldsV ks (cv_next b v) w

  pub HoldsT : HBlks → ℕ → CTm → Type 0
  HoldsT ks b (CLet d t) = HoldsD ks b d × HoldsT ks (cd_next b d) t
  HoldsT ks b (CCall f ts vs) = HoldsV ks b f × HoldsVs ks (cv_next b f) vs
  HoldsT ks b (CIf v t u) = HoldsV ks b v × HoldsT ks (cv_next b v) t × HoldsT ks (ct_next (cv_next b v) t) u
  HoldsT ks b (CHalt v) = HoldsV ks b v

-- the numbers of the codes are the places of the blocks
mutual
  len_v : (v : CVal) (b : ℕ) → cv_next b v ≡ b + length (blocks_v b v)
  len_v (CVar i) b = omega arith
  len_v (CInt n) b = omega arith
  len_v (CTuple vs) b = len_vs vs b
  len_v (CCode owes args body) b = omega (arith, len_t body (suc b))
  len_v (CApply v ts) b = len_v v b
  len_v (CPack h v s) b = len_v v b

  len_vs : (vs : CVals) (b : ℕ) → cvs_next b vs ≡ b + length (blocks_vs b vs)
  len_vs NoCVals b = omega arith
  len_vs (MoreCVals v vs) b =
      omega (arith, len_v v b, len_vs vs (cv_next b v), length-append (blocks_v b v) (blocks_vs (cv_next b v) vs))

  len_d : (d : CDecl) (b : ℕ) → cd_next b d ≡ b + length (blocks_d b d)
  len_d (CName v) b = len_v v b
  len_d (CProj i v) b = len_v v b
  len_d (CArith op v w) b =
      omega (arith, len_v v b, len_v w (cv_next b v), length-append (blocks_v b v) (blocks_v (cv_next b v) w))
  len_d (CUnpack v) b = len_v v b
  len_d (CCell v) b = len_v v b
  len_d (CGet v) b = len_v v b
  len_d (CSet v w) b =
      omega (arith, len_v v b, len_v w (cv_next b v), length-append (blocks_v b v) (blocks_v (cv_next b v) w))

  pub len_t : (t : CTm) (b : ℕ) → ct_next b t ≡ b + length (blocks_t b t)
  len_t (CLet d t) b =
      omega (arith, len_d d b, len_t t (cd_next b d), length-append (blocks_d b d) (blocks_t (cd_next b d) t))
  len_t (CCall f ts vs) b =
      omega (arith, len_v f b, len_vs vs (cv_next b f), length-append (blocks_v b f) (blocks_vs (cv_next b f) vs))
  len_t (CIf v t u) b =
      let c = cv_next b v in
      omega (
        arith,
        len_v v b,
        len_t t c,
        len_t u (ct_next c t),
        length-append (blocks_v b v) (blocks_t c t ++ blocks_t (ct_next c t) u),
        length-append (blocks_t c t) (blocks_t (ct_next c t) u),
      )
  len_t (CHalt v) b = len_v v b

-- these blocks stand from b on
abbrev pub HasAt : HBlks → ℕ → HBlks → Type 0
HasAt ks b [] = Unit {0}
HasAt ks b (x ∷ xs) = (block_at ks b ≡ Some x) × HasAt ks (suc b) xs

has_front : (ks : HBlks) (b : ℕ) (xs ys : HBlks) → HasAt ks b (xs ++ ys) → HasAt ks b xs
has_front ks b [] ys h = tt
has_front ks b (x ∷ xs) ys h = (h.0, has_front ks (suc b) xs ys h.1)

has_back : (ks : HBlks) (b c : ℕ) (xs ys : HBlks) → c ≡ b + length xs → HasAt ks b (xs ++ ys) → HasAt ks c ys
has_back ks b c [] ys e h = let d : b ≡ c = omega arith in subst (λ k. HasAt ks k ys) d h
has_back ks b c (x ∷ xs) ys e h = has_back ks (suc b) c xs ys (omega arith) h.1

pub has_all : (pre xs : HBlks) → HasAt (pre ++ xs) (length pre) xs
has_all pre [] = tt
has_all pre (x ∷ xs) =
    (seam pre x xs, subst₂ (λ ks n. HasAt ks n xs) (append_assoc pre (x ∷ []) xs) len (has_all (pre ++ x ∷ []) xs))
  where
    seam : (p : HBlks) (y : HBlk) (ys : HBlks) → block_at (p ++ y ∷ ys) (length p) ≡ Some y
    seam [] y ys = refl
    seam (z ∷ p) y ys = seam p y ys

    len : length (pre ++ x ∷ []) ≡ suc (length pre)
    len = omega (arith, length-append pre (x ∷ []))

mutual
  holds_v : (v : CVal) (ks : HBlks) (b : ℕ) → HasAt ks b (blocks_v b v) → HoldsV ks b v
  holds_v (CVar i) ks b h = tt
  holds_v (CInt n) ks b h = tt
  holds_v (CTuple vs) ks b h = holds_vs vs ks b h
  holds_v (CCode owes args body) ks b h = (h.0, holds_t body ks (suc b) h.1)
  holds_v (CApply v ts) ks b h = holds_v v ks b h
  holds_v (CPack hid v s) ks b h = holds_v v ks b h

  holds_vs : (vs : CVals) (ks : HBlks) (b : ℕ) → HasAt ks b (blocks_vs b vs) → HoldsVs ks b vs
  holds_vs NoCVals ks b h = tt
  holds_vs (MoreCVals v vs) ks b h = (
    holds_v v ks b (has_front ks b (blocks_v b v) _ h),
    holds_vs vs ks (cv_next b v) (has_back ks b (cv_next b v) (blocks_v b v) _ (len_v v b) h),
  )

  holds_d : (d : CDecl) (ks : HBlks) (b : ℕ) → HasAt ks b (blocks_d b d) → HoldsD ks b d
  holds_d (CName v) ks b h = holds_v v ks b h
  holds_d (CProj i v) ks b h = holds_v v ks b h
  holds_d (CArith op v w) ks b h = (
    holds_v v ks b (has_front ks b (blocks_v b v) _ h),
    holds_v w ks (cv_next b v) (has_back ks b (cv_next b v) (blocks_v b v) _ (len_v v b) h),
  )
  holds_d (CUnpack v) ks b h = holds_v v ks b h
  holds_d (CCell v) ks b h = holds_v v ks b h
  holds_d (CGet v) ks b h = holds_v v ks b h
  holds_d (CSet v w) ks b h = (
    holds_v v ks b (has_front ks b (blocks_v b v) _ h),
    holds_v w ks (cv_next b v) (has_back ks b (cv_next b v) (blocks_v b v) _ (len_v v b) h),
  )

  pub holds_t : (t : CTm) (ks : HBlks) (b : ℕ) → HasAt ks b (blocks_t b t) → HoldsT ks b t
  holds_t (CLet d t) ks b h = (
    holds_d d ks b (has_front ks b (blocks_d b d) _ h),
    holds_t t ks (cd_next b d) (has_back ks b (cd_next b d) (blocks_d b d) _ (len_d d b) h),
  )
  holds_t (CCall f ts vs) ks b h = (
    holds_v f ks b (has_front ks b (blocks_v b f) _ h),
    holds_vs vs ks (cv_next b f) (has_back ks b (cv_next b f) (blocks_v b f) _ (len_v f b) h),
  )
  holds_t (CIf v t u) ks b h =
      let c = cv_next b v in
      let k = has_back ks b c (blocks_v b v) (blocks_t c t ++ blocks_t (ct_next c t) u) (len_v v b) h in (
        holds_v v ks b (has_front ks b (blocks_v b v) _ h),
        holds_t t ks c (has_front ks c (blocks_t c t) _ k),
        holds_t u ks (ct_next c t) (has_back ks c (ct_next c t) (blocks_t c t) _ (len_t t c) k),
      )
  holds_t (CHalt v) ks b h = holds_v v ks b h

-- the block of a code
abbrev IsBlock : HBlks → CNumbered → ℕ → Type 0
IsBlock ks (CCodeAt b owes args body) l =
    (l ≡ b) × (block_at ks b ≡ Some (block_of b owes args body)) × HoldsT ks (suc b) body

-- an environment under d variables
abbrev EnvOwn : HBlks → Own → CWords → Type 0
EnvOwn ks Nobody NoWords = Unit {0}
EnvOwn ks Nobody (MoreWords w ws) = ⊥
EnvOwn ks (Code l) NoWords = ⊥
EnvOwn ks (Code l) (MoreWords w ws) = HoistsTo (IsBlock ks) w (WCode l NoWords) × (ws ≡ NoWords)

abbrev EnvOk : HBlks → Own → ℕ → CWords → HWords → Type 0
EnvOk ks own zero ws ys = EnvOwn ks own ws
EnvOk ks own (suc d) NoWords ys = ⊥
EnvOk ks own (suc d) (MoreWords w ws) NoWords = ⊥
EnvOk ks own (suc d) (MoreWords w ws) (MoreWords y ys) = HoistsTo (IsBlock ks) w y × EnvOk ks own d ws ys

deeper_value : (s : Spot) (y : HWord) (ys : HWords) → hv_value (spot_value (deeper s)) (MoreWords y ys)
    ≡ hv_value (spot_value s) ys
deeper_value (Near i) y ys = refl
deeper_value (Self l) y ys = refl
deeper_value Lost y ys = refl

var_hoists : (ks : HBlks) (own : Own) (d i : ℕ) (ws : CWords) (ys : HWords) → EnvOk ks own d ws ys →
    HoistsTo (IsBlock ks) (at ws i) (hv_value (spot_value (spot own d i)) ys)
var_hoists ks Nobody zero i NoWords ys h = refl
var_hoists ks Nobody zero i (MoreWords w ws) ys h = absurd h
var_hoists ks (Code l) zero i NoWords ys h = absurd h
var_hoists ks (Code l) zero zero (MoreWords w ws) ys h = h.0
var_hoists ks (Code l) zero (suc i) (MoreWords w ws) ys h =
    subst (λ z. HoistsTo (IsBlock ks) (at z i) (WInt (pos 0))) (sym h.1) refl
var_hoists ks own (suc d) i NoWords ys h = absurd h
var_hoists ks own (suc d) i (MoreWords w ws) NoWords h = absurd h
var_hoists ks own (suc d) zero (MoreWords w ws) (MoreWords y ys) h = h.0
var_hoists ks own (suc d) (suc i) (MoreWords w ws) (MoreWords y ys) h =
    subst (HoistsTo (IsBlock ks) (at ws i)) (sym (deeper_value (spot own d i) y ys))
    (var_hoists ks own d i ws ys h.1)

mutual
  stands_v : (v : CVal) (ks : HBlks) (own : Own) (d b : ℕ) (ws : CWords) (ys : HWords) → HoldsV ks b v →
      EnvOk ks own d ws ys → HoistsTo (IsBlock ks) (cv_value b v ws) (hv_value (hoist_v own d b v) ys)
  stands_v (CVar i) ks own d b ws ys k h = var_hoists ks own d i ws ys h
  stands_v (CInt n) ks own d b ws ys k h = refl
  stands_v (CTuple vs) ks own d b ws ys k h = (_, refl, stands_vs vs ks own d b ws ys k h)
  stands_v (CCode owes args body) ks own d b ws ys k h = (b, refl, (refl, k.0, k.1))
  stands_v (CApply v ts) ks own d b ws ys k h = stands_v v ks own d b ws ys k h
  stands_v (CPack hid v s) ks own d b ws ys k h = stands_v v ks own d b ws ys k h

  stands_vs : (vs : CVals) (ks : HBlks) (own : Own) (d b : ℕ) (ws : CWords) (ys : HWords) → HoldsVs ks b vs →
      EnvOk ks own d ws ys → AllHoistTo (IsBlock ks) (cvs_value b vs ws) (hvs_value (hoist_vs own d b vs) ys)
  stands_vs NoCVals ks own d b ws ys k h = refl
  stands_vs (MoreCVals v vs) ks own d b ws ys k h =
      (_, _, refl, stands_v v ks own d b ws ys k.0 h, stands_vs vs ks own d (cv_next b v) ws ys k.1 h)

stands_d : (e : CDecl) (ks : HBlks) (own : Own) (d b : ℕ) (ws : CWords) (ys : HWords) (st : CWords) (hst : HWords) →
    HoldsD ks b e → EnvOk ks own d ws ys → AllHoistTo (IsBlock ks) st hst →
    MadeHoistsTo (IsBlock ks) (cd_value b e ws st) (hd_value (hoist_d own d b e) ys hst)
stands_d (CName v) ks own d b ws ys st hst k h r = (stands_v v ks own d b ws ys k h, r)
stands_d (CProj i v) ks own d b ws ys st hst k h r =
    given_hoists (IsBlock ks) _ _ st hst (project_hoists (IsBlock ks) i _ _ (stands_v v ks own d b ws ys k h)) r
stands_d (CArith op v w) ks own d b ws ys st hst k h r =
    given_hoists (IsBlock ks) _ _ st hst
    (compute_hoists (IsBlock ks) op _ _ _ _ (stands_v v ks own d b ws ys k.0 h)
    (stands_v w ks own d (cv_next b v) ws ys k.1 h))
    r
stands_d (CUnpack v) ks own d b ws ys st hst k h r = (stands_v v ks own d b ws ys k h, r)
stands_d (CCell v) ks own d b ws ys st hst k h r =
    (ap WCell (all_size (IsBlock ks) st hst r), more_hoists (IsBlock ks) st hst _ _ r (stands_v v ks own d b ws ys k h))
stands_d (CGet v) ks own d b ws ys st hst k h r = get_hoists (IsBlock ks) _ _ st hst (stands_v v ks own d b ws ys k h) r
stands_d (CSet v w) ks own d b ws ys st hst k h r =
    set_hoists (IsBlock ks) _ _ _ _ st hst (stands_v v ks own d b ws ys k.0 h)
    (stands_v w ks own d (cv_next b v) ws ys k.1 h) r

-- terms
abbrev HFollows : HBlks → CEnter → HEnter → Type 0
HFollows ks ce he =
    (b : ℕ) (owes : ℕ) (args : CTys) (body : CTm) (vs : CWords) (ys : HWords) (st : CWords) (hst : HWords) →
    block_at ks b ≡ Some (block_of b owes args body) → HoldsT ks (suc b) body → AllHoistTo (IsBlock ks) vs ys →
    AllHoistTo (IsBlock ks) st hst → size vs ≡ ccount args →
    he b (hoist_t (Code b) (ccount args) (suc b) body) (onto ys NoWords) hst
    ≡ ce b body (onto vs (MoreWords (WCode (CCodeAt b owes args body) NoWords) NoWords)) st

call_hoists : (ks : HBlks) (ce : CEnter) (he : HEnter) → HFollows ks ce he →
    (v : CWord) (y : HWord) (vs : CWords) (ys : HWords) (st : CWords) (hst : HWords) → HoistsTo (IsBlock ks) v y →
    AllHoistTo (IsBlock ks) vs ys → AllHoistTo (IsBlock ks) st hst → hopen ks he y ys hst ≡ copen ce v vs st
call_hoists ks ce he f (WInt n) y vs ys st hst r q w = ap (λ z. hopen ks he z ys hst) r
call_hoists ks ce he f (WTuple ws) y vs ys st hst r q w = ap (λ z. hopen ks he z ys hst) r.1
call_hoists ks ce he f (WCell p) y vs ys st hst r q w = ap (λ z. hopen ks he z ys hst) r
call_hoists ks ce he f (WCode (CCodeAt b owes args body) env) y vs ys st hst r q w =
    ap (λ z. hopen ks he z ys hst) (r.1 ∙ ap (λ l. WCode l NoWords) r.2.0)
    ∙ ap (λ o. with_block o (λ k. if_fits (nat_eq (size ys) (ccount k.args)) (he b k.body (onto ys NoWords) hst)))
    r.2.1
    ∙ ap (λ n. if_fits (nat_eq n (ccount args))
    (he b (hoist_t (Code b) (ccount args) (suc b) body) (onto ys NoWords) hst)) (all_size (IsBlock ks) vs ys q)
    ∙ fits_step (nat_eq (size vs) (ccount args)) _ _
    (λ e. f b owes args body vs ys st hst r.2.1 r.2.2 q w (eqb-true (size vs) (ccount args) e))

stands_t : (ks : HBlks) (ce : CEnter) (he : HEnter) → HFollows ks ce he →
    (t : CTm) (own : Own) (d b : ℕ) (ws : CWords) (ys : HWords) (st : CWords) (hst : HWords) → HoldsT ks b t →
    EnvOk ks own d ws ys → AllHoistTo (IsBlock ks) st hst → hterm ks he (hoist_t own d b t) ys hst ≡ cterm ce b t ws st
stands_t ks ce he f (CLet e t) own d b ws ys st hst k h w =
    value_hoists (IsBlock ks) (cd_value b e ws st) (hd_value (hoist_d own d b e) ys hst) _ _
    (stands_d e ks own d b ws ys st hst k.0 h w)
    (λ v y st2 hst2 r w2. stands_t ks ce he f t own (suc d) (cd_next b e) (MoreWords v ws) (MoreWords y ys) st2 hst2
    k.1 (r, h) w2)
stands_t ks ce he f (CCall g ts vs) own d b ws ys st hst k h w =
    call_hoists ks ce he f _ _ _ _ st hst (stands_v g ks own d b ws ys k.0 h)
    (stands_vs vs ks own d (cv_next b g) ws ys k.1 h) w
stands_t ks ce he f (CIf v t u) own d b ws ys st hst k h w =
    zero_hoists (IsBlock ks) _ _ _ _ _ _ (stands_v v ks own d b ws ys k.0 h)
    (stands_t ks ce he f t own d (cv_next b v) ws ys st hst k.1 h w)
    (stands_t ks ce he f u own d (ct_next (cv_next b v) t) ws ys st hst k.2 h w)
stands_t ks ce he f (CHalt v) own d b ws ys st hst k h w =
    halt_hoists (IsBlock ks) _ _ (stands_v v ks own d b ws ys k h)

env_onto : (ks : HBlks) (own : Own) (d : ℕ) (vs ws : CWords) (ys zs : HWords) → AllHoistTo (IsBlock ks) vs ys →
    EnvOk ks own d ws zs → EnvOk ks own (lift (size vs) d) (onto vs ws) (onto ys zs)
env_onto ks own d NoWords ws ys zs r h = subst (λ y. EnvOk ks own d ws (onto y zs)) (sym r) h
env_onto ks own d (MoreWords v vs) ws ys zs r h =
    subst₂ (λ y n. EnvOk ks own n (onto vs (MoreWords v ws)) (onto y zs)) (sym r.2) (lift_suc (size vs) d)
    (env_onto ks own (suc d) vs (MoreWords v ws) r.1 (MoreWords r.0 zs) r.4 (r.3, h))

hfollows : (ks : HBlks) (n : ℕ) → HFollows ks (center n) (henter ks n)
hfollows ks zero b owes args body vs ys st hst at holds r w e = refl
hfollows ks (suc n) b owes args body vs ys st hst at holds r w e =
    ap (enters b)
    (stands_t ks (center n) (henter ks n) (hfollows ks n) body (Code b) (ccount args) (suc b) (onto vs self)
    (onto ys NoWords) st hst holds
    (subst (λ k. EnvOk ks (Code b) k (onto vs self) (onto ys NoWords)) (lift_zero (size vs) ∙ e)
    (env_onto ks (Code b) 0 vs self ys NoWords r ((b, refl, (refl, at, holds)), refl))) w)
  where
    self : CWords
    self = MoreWords (WCode (CCodeAt b owes args body) NoWords) NoWords

pub hoist_kept : (t : CTm) (n : ℕ) → hrun n (blocks_of t) (main_of t) ≡ crun n t
hoist_kept t n =
    let ks = blocks_of t in
    stands_t ks (center n) (henter ks n) (hfollows ks n) t Nobody 0 0 NoWords NoWords NoWords NoWords
    (holds_t t ks 0 (has_all [] (blocks_t 0 t))) tt refl
