-- Translated types under renamings and substitutions.
use Rattle.std.proofs.Common.{◌≡◌, ◌<◌, ℕ, zero, suc, Bool, true, false, refl, sym, ap, ◌∙◌, ap₂, arith, eq-eqb}
use Rattle.calc_core.specs.Ends.{lift, under, after_one}
use Rattle.k_terms.specs.K.{KTy, KTys, TKInt, TKVar, TKTuple, TKCode, TKExists, TKRef, NoKTys, MoreKTys, kcount, kren}
use Rattle.k_terms.specs.K.{krens}
use Rattle.c_rules.specs.Free.{tfree, tfrees}
use Rattle.c_terms.specs.C.{CTy, CTys, TCVar, TCTuple, TCCode, TCExists, TCRef, NoCTys, MoreCTys, ccount}
use Rattle.k_terms.specs.Typing.{kscons, kup, ksub, ksubs, knames}
use Rattle.c_terms.specs.Typing.{scons, cren, crens, cup, csub, csubs, names}
use Rattle.c_rules.specs.Close.{ctype, ctypes, rank, picked_tvars, pick_type}
use Rattle.c_laws.proofs.Envs.{or_left, or_right}
use Rattle.calc_core.proofs.Lifts.{under_ren, lift_suc}

pub under_under : (n : ℕ) (r : ℕ → ℕ) (i : ℕ) → under n (under 1 r) i ≡ under (suc n) r i
under_under zero r zero = refl
under_under zero r (suc i) = refl
under_under (suc n) r zero = refl
under_under (suc n) r (suc i) = ap suc (under_under n r i)

pub under_lift : (n : ℕ) (r : ℕ → ℕ) (i : ℕ) → under n r (lift n i) ≡ lift n (r i)
under_lift zero r i = refl
under_lift (suc n) r i = ap suc (under_lift n r i)

mutual
  pub ren_ctype : (t : KTy) (q r p : ℕ → ℕ) → ((i : ℕ) → q (r i) ≡ p i) → cren q (ctype r t) ≡ ctype p t
  ren_ctype TKInt q r p f = refl
  ren_ctype (TKVar i) q r p f = ap TCVar (f i)
  ren_ctype (TKTuple ts) q r p f = ap TCTuple (ren_ctypes ts q r p f)
  ren_ctype (TKExists t) q r p f = ap TCExists (ren_ctype t (under 1 q) (under 1 r) (under 1 p) (under_ren 1 q r p f))
  ren_ctype (TKRef t) q r p f = ap TCRef (ren_ctype t q r p f)
  ren_ctype (TKCode n ts) q r p f =
      ap₂ (λ x y. TCExists (TCTuple (MoreCTys (TCCode n (MoreCTys (TCVar x) y)) (MoreCTys (TCVar 0) NoCTys))))
      (under_lift n (under 1 q) 0)
      (ren_ctypes ts (under n (under 1 q)) (under n (λ i. suc (r i))) (under n (λ i. suc (p i)))
      (under_ren n (under 1 q) (λ i. suc (r i)) (λ i. suc (p i)) (λ i. ap suc (f i))))

  pub ren_ctypes : (ts : KTys) (q r p : ℕ → ℕ) → ((i : ℕ) → q (r i) ≡ p i) → crens q (ctypes r ts) ≡ ctypes p ts
  ren_ctypes NoKTys q r p f = refl
  ren_ctypes (MoreKTys t ts) q r p f = ap₂ MoreCTys (ren_ctype t q r p f) (ren_ctypes ts q r p f)

mutual
  pub ctype_ren : (t : KTy) (r q p : ℕ → ℕ) → ((i : ℕ) → r (q i) ≡ p i) → ctype r (kren q t) ≡ ctype p t
  ctype_ren TKInt r q p f = refl
  ctype_ren (TKVar i) r q p f = ap TCVar (f i)
  ctype_ren (TKTuple ts) r q p f = ap TCTuple (ctypes_ren ts r q p f)
  ctype_ren (TKExists t) r q p f = ap TCExists (ctype_ren t (under 1 r) (under 1 q) (under 1 p) (under_ren 1 r q p f))
  ctype_ren (TKRef t) r q p f = ap TCRef (ctype_ren t r q p f)
  ctype_ren (TKCode n ts) r q p f =
      ap (λ y. TCExists (TCTuple (MoreCTys (TCCode n (MoreCTys (TCVar (lift n 0)) y)) (MoreCTys (TCVar 0) NoCTys))))
      (ctypes_ren ts (under n (λ i. suc (r i))) (under n q) (under n (λ i. suc (p i)))
      (under_ren n (λ i. suc (r i)) q (λ i. suc (p i)) (λ i. ap suc (f i))))

  pub ctypes_ren : (ts : KTys) (r q p : ℕ → ℕ) → ((i : ℕ) → r (q i) ≡ p i) → ctypes r (krens q ts) ≡ ctypes p ts
  ctypes_ren NoKTys r q p f = refl
  ctypes_ren (MoreKTys t ts) r q p f = ap₂ MoreCTys (ctype_ren t r q p f) (ctypes_ren ts r q p f)

-- a substitution that is a renaming at the live variables
pub cup_under : (n : ℕ) (live : ℕ → Bool) (s : ℕ → CTy) (r p : ℕ → ℕ) →
    ((i : ℕ) → live (lift n i) ≡ true → s (r i) ≡ TCVar (p i)) → (i : ℕ) → live i ≡ true →
    cup n s (under n r i) ≡ TCVar (under n p i)
cup_under zero live s r p f i e = f i e
cup_under (suc n) live s r p f zero e = refl
cup_under (suc n) live s r p f (suc i) e = ap (cren suc) (cup_under n (λ j. live (suc j)) s r p f i e)

pub cup_lift : (n : ℕ) (s : ℕ → CTy) (i j : ℕ) → s i ≡ TCVar j → cup n s (lift n i) ≡ TCVar (lift n j)
cup_lift zero s i j e = e
cup_lift (suc n) s i j e = ap (cren suc) (cup_lift n s i j e)

mutual
  pub sub_ctype : (t : KTy) (s : ℕ → CTy) (r p : ℕ → ℕ) → ((i : ℕ) → tfree i t ≡ true → s (r i) ≡ TCVar (p i)) →
      csub s (ctype r t) ≡ ctype p t
  sub_ctype TKInt s r p f = refl
  sub_ctype (TKVar i) s r p f = f i (eq-eqb i i refl)
  sub_ctype (TKTuple ts) s r p f = ap TCTuple (sub_ctypes ts s r p f)
  sub_ctype (TKExists t) s r p f =
      ap TCExists (sub_ctype t (cup 1 s) (under 1 r) (under 1 p) (cup_under 1 (λ i. tfree i t) s r p f))
  sub_ctype (TKRef t) s r p f = ap TCRef (sub_ctype t s r p f)
  sub_ctype (TKCode n ts) s r p f =
      ap₂ (λ x y. TCExists (TCTuple (MoreCTys (TCCode n (MoreCTys x y)) (MoreCTys (TCVar 0) NoCTys))))
      (cup_lift n (cup 1 s) 0 0 refl)
      (sub_ctypes ts (cup n (cup 1 s)) (under n (λ i. suc (r i))) (under n (λ i. suc (p i)))
      (cup_under n (λ i. tfrees i ts) (cup 1 s) (λ i. suc (r i)) (λ i. suc (p i)) (λ i e. ap (cren suc) (f i e))))

  pub sub_ctypes : (ts : KTys) (s : ℕ → CTy) (r p : ℕ → ℕ) → ((i : ℕ) → tfrees i ts ≡ true → s (r i) ≡ TCVar (p i)) →
      csubs s (ctypes r ts) ≡ ctypes p ts
  sub_ctypes NoKTys s r p f = refl
  sub_ctypes (MoreKTys t ts) s r p f =
      ap₂ MoreCTys (sub_ctype t s r p (λ i e. f i (or_left (tfree i t) (tfrees i ts) e)))
      (sub_ctypes ts s r p (λ i e. f i (or_right (tfree i t) (tfrees i ts) e)))

-- a substitution of translated types
pub cup_gen : (n : ℕ) (s : ℕ → CTy) (r p : ℕ → ℕ) (k : ℕ → KTy) → ((i : ℕ) → s (r i) ≡ ctype p (k i)) → (i : ℕ) →
    cup n s (under n r i) ≡ ctype (under n p) (kup n k i)
cup_gen zero s r p k f i = f i
cup_gen (suc n) s r p k f zero = refl
cup_gen (suc n) s r p k f (suc i) =
    ap (cren suc) (cup_gen n s r p k f i)
    ∙ ren_ctype (kup n k i) suc (under n p) (λ j. suc (under n p j)) (λ j. refl)
    ∙ sym (ctype_ren (kup n k i) (under (suc n) p) suc (λ j. suc (under n p j)) (λ j. refl))

mutual
  pub gen_ctype : (t : KTy) (s : ℕ → CTy) (r p : ℕ → ℕ) (k : ℕ → KTy) → ((i : ℕ) → s (r i) ≡ ctype p (k i)) →
      csub s (ctype r t) ≡ ctype p (ksub k t)
  gen_ctype TKInt s r p k f = refl
  gen_ctype (TKVar i) s r p k f = f i
  gen_ctype (TKTuple ts) s r p k f = ap TCTuple (gen_ctypes ts s r p k f)
  gen_ctype (TKExists t) s r p k f =
      ap TCExists (gen_ctype t (cup 1 s) (under 1 r) (under 1 p) (kup 1 k) (cup_gen 1 s r p k f))
  gen_ctype (TKRef t) s r p k f = ap TCRef (gen_ctype t s r p k f)
  gen_ctype (TKCode n ts) s r p k f =
      ap₂ (λ x y. TCExists (TCTuple (MoreCTys (TCCode n (MoreCTys x y)) (MoreCTys (TCVar 0) NoCTys))))
      (cup_lift n (cup 1 s) 0 0 refl)
      (gen_ctypes ts (cup n (cup 1 s)) (under n (λ i. suc (r i))) (under n (λ i. suc (p i))) (kup n k)
      (cup_gen n (cup 1 s) (λ i. suc (r i)) (λ i. suc (p i)) k
      (λ i. ap (cren suc) (f i) ∙ ren_ctype (k i) suc p (λ j. suc (p j)) (λ j. refl))))

  pub gen_ctypes : (ts : KTys) (s : ℕ → CTy) (r p : ℕ → ℕ) (k : ℕ → KTy) → ((i : ℕ) → s (r i) ≡ ctype p (k i)) →
      csubs s (ctypes r ts) ≡ ctypes p (ksubs k ts)
  gen_ctypes NoKTys s r p k f = refl
  gen_ctypes (MoreKTys t ts) s r p k f = ap₂ MoreCTys (gen_ctype t s r p k f) (gen_ctypes ts s r p k f)

pub scons_gen : (c : CTy) (t : KTy) (s : ℕ → CTy) (r p : ℕ → ℕ) (k : ℕ → KTy) → c ≡ ctype p t →
    ((i : ℕ) → s (r i) ≡ ctype p (k i)) → (i : ℕ) → scons c s (under 1 r i) ≡ ctype p (kscons t k i)
scons_gen c t s r p k e f zero = e
scons_gen c t s r p k e f (suc i) = f i

-- the types of a call
pub names_gen : (ts : KTys) (s : ℕ → CTy) (r p : ℕ → ℕ) (k : ℕ → KTy) → ((i : ℕ) → s (r i) ≡ ctype p (k i)) → (i : ℕ) →
    names (ctypes p ts) s (under (kcount ts) r i) ≡ ctype p (knames ts k i)
names_gen NoKTys s r p k f i = f i
names_gen (MoreKTys t ts) s r p k f i =
    ap (names (ctypes p ts) (scons (ctype p t) s)) (sym (under_under (kcount ts) r i))
    ∙ names_gen ts (scons (ctype p t) s) (under 1 r) p (kscons t k) (scons_gen (ctype p t) t s r p k refl f) i

-- the types of a closed code's free type variables
abbrev pub kept_names : (ℕ → Bool) → (ℕ → ℕ) → ℕ → (ℕ → CTy) → ℕ → CTy
kept_names keep r zero s = s
kept_names keep r (suc n) s =
    names (pick_type (keep 0) (TCVar (r 0)) NoCTys) (kept_names (λ i. keep (suc i)) (λ i. r (suc i)) n s)

pick_names : (k : Bool) (t : CTy) (acc : CTys) (s : ℕ → CTy) →
    names (pick_type k t acc) s ≡ names acc (names (pick_type k t NoCTys) s)
pick_names true t acc s = refl
pick_names false t acc s = refl

pub picked_names : (keep : ℕ → Bool) (r : ℕ → ℕ) (n : ℕ) (acc : CTys) (s : ℕ → CTy) →
    names (picked_tvars keep r n acc) s ≡ names acc (kept_names keep r n s)
picked_names keep r zero acc s = refl
picked_names keep r (suc n) acc s =
    picked_names (λ i. keep (suc i)) (λ i. r (suc i)) n (pick_type (keep 0) (TCVar (r 0)) acc) s
    ∙ pick_names (keep 0) (TCVar (r 0)) acc (kept_names (λ i. keep (suc i)) (λ i. r (suc i)) n s)

name_zero : (k : Bool) (t : CTy) (s : ℕ → CTy) → k ≡ true → names (pick_type k t NoCTys) s 0 ≡ t
name_zero true t s e = refl
name_zero false t s e = absurd cc

name_suc : (k : Bool) (t : CTy) (s : ℕ → CTy) (i : ℕ) → names (pick_type k t NoCTys) s (after_one k i) ≡ s i
name_suc true t s i = refl
name_suc false t s i = refl

pub kept_name : (keep : ℕ → Bool) (r : ℕ → ℕ) (n j : ℕ) (s : ℕ → CTy) → keep j ≡ true → j < n →
    kept_names keep r n s (rank keep j) ≡ TCVar (r j)
kept_name keep r zero j s e h = absurd (omega arith)
kept_name keep r (suc n) zero s e h = name_zero (keep 0) (TCVar (r 0)) _ e
kept_name keep r (suc n) (suc j) s e h =
    name_suc (keep 0) (TCVar (r 0)) (kept_names (λ i. keep (suc i)) (λ i. r (suc i)) n s) (rank (λ i. keep (suc i)) j)
    ∙ kept_name (λ i. keep (suc i)) (λ i. r (suc i)) n j s e (omega arith)

pub pick_count : (k : Bool) (t : CTy) (ts : CTys) → ccount (pick_type k t ts) ≡ after_one k (ccount ts)
pick_count true t ts = refl
pick_count false t ts = refl

after_lift : (k : Bool) (n m : ℕ) → lift n (after_one k m) ≡ after_one k (lift n m)
after_lift true n m = lift_suc n m
after_lift false n m = refl

after_lift_left : (k : Bool) (n m : ℕ) → lift (after_one k n) m ≡ after_one k (lift n m)
after_lift_left true n m = refl
after_lift_left false n m = refl

pub picked_count : (keep : ℕ → Bool) (r : ℕ → ℕ) (n : ℕ) (acc : CTys) →
    ccount (picked_tvars keep r n acc) ≡ lift (rank keep n) (ccount acc)
picked_count keep r zero acc = refl
picked_count keep r (suc n) acc =
    picked_count (λ i. keep (suc i)) (λ i. r (suc i)) n (pick_type (keep 0) (TCVar (r 0)) acc)
    ∙ ap (lift (rank (λ i. keep (suc i)) n)) (pick_count (keep 0) (TCVar (r 0)) acc)
    ∙ after_lift (keep 0) (rank (λ i. keep (suc i)) n) (ccount acc)
    ∙ sym (after_lift_left (keep 0) (rank (λ i. keep (suc i)) n) (ccount acc))
