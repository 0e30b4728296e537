-- Renaming after renaming, substitution after substitution, and types put for names.
use Rattle.std.proofs.Common.{◌≡◌, ◌<◌, ◌⊎◌, inl, inr, ⊎_elim, ℕ, zero, suc, refl, sym, ap, ap₂, ◌∙◌, subst, arith}
use Rattle.calc_core.specs.Ends.{lift, under}
use Rattle.calc_core.specs.Types.{Ty, IntTy, VarTy, TupleTy, CodeTy, ExistsTy, RefTy, Tys, NoTys, MoreTys, count}
use Rattle.calc_core.specs.Substitution.{renamed as ren, all_renamed as rens, with_type, with_types}
use Rattle.calc_core.specs.Substitution.{under_binders as up, substituted as sub, all_substituted as subs}
use Rattle.calc_core.proofs.Lifts.{under_ren, lift_suc}

mutual
  pub ren_ren : (t : Ty) (q r p : ℕ → ℕ) → ((i : ℕ) → q (r i) ≡ p i) → ren q (ren r t) ≡ ren p t
  ren_ren IntTy q r p f = refl
  ren_ren (VarTy i) q r p f = ap VarTy (f i)
  ren_ren (TupleTy ts) q r p f = ap TupleTy (rens_ren ts q r p f)
  ren_ren (CodeTy n ts) q r p f = ap (CodeTy n) (rens_ren ts (under n q) (under n r) (under n p) (under_ren n q r p f))
  ren_ren (ExistsTy t) q r p f = ap ExistsTy (ren_ren t (under 1 q) (under 1 r) (under 1 p) (under_ren 1 q r p f))
  ren_ren (RefTy t) q r p f = ap RefTy (ren_ren t q r p f)

  pub rens_ren : (ts : Tys) (q r p : ℕ → ℕ) → ((i : ℕ) → q (r i) ≡ p i) → rens q (rens r ts) ≡ rens p ts
  rens_ren NoTys q r p f = refl
  rens_ren (MoreTys t ts) q r p f = ap₂ MoreTys (ren_ren t q r p f) (rens_ren ts q r p f)

pub up_ren : (n : ℕ) (s : ℕ → Ty) (q : ℕ → ℕ) (p : ℕ → Ty) → ((i : ℕ) → s (q i) ≡ p i) → (i : ℕ) →
    up n s (under n q i) ≡ up n p i
up_ren zero s q p f i = f i
up_ren (suc n) s q p f zero = refl
up_ren (suc n) s q p f (suc i) = ap (ren suc) (up_ren n s q p f i)

mutual
  pub sub_ren : (t : Ty) (s : ℕ → Ty) (q : ℕ → ℕ) (p : ℕ → Ty) → ((i : ℕ) → s (q i) ≡ p i) →
      sub s (ren q t) ≡ sub p t
  sub_ren IntTy s q p f = refl
  sub_ren (VarTy i) s q p f = f i
  sub_ren (TupleTy ts) s q p f = ap TupleTy (subs_ren ts s q p f)
  sub_ren (CodeTy n ts) s q p f = ap (CodeTy n) (subs_ren ts (up n s) (under n q) (up n p) (up_ren n s q p f))
  sub_ren (ExistsTy t) s q p f = ap ExistsTy (sub_ren t (up 1 s) (under 1 q) (up 1 p) (up_ren 1 s q p f))
  sub_ren (RefTy t) s q p f = ap RefTy (sub_ren t s q p f)

  pub subs_ren : (ts : Tys) (s : ℕ → Ty) (q : ℕ → ℕ) (p : ℕ → Ty) → ((i : ℕ) → s (q i) ≡ p i) →
      subs s (rens q ts) ≡ subs p ts
  subs_ren NoTys s q p f = refl
  subs_ren (MoreTys t ts) s q p f = ap₂ MoreTys (sub_ren t s q p f) (subs_ren ts s q p f)

pub ren_up : (n : ℕ) (q : ℕ → ℕ) (s p : ℕ → Ty) → ((i : ℕ) → ren q (s i) ≡ p i) → (i : ℕ) →
    ren (under n q) (up n s i) ≡ up n p i
ren_up zero q s p f i = f i
ren_up (suc n) q s p f zero = refl
ren_up (suc n) q s p f (suc i) =
    ren_ren (up n s i) (under (suc n) q) suc (λ j. suc (under n q j)) (λ j. refl)
    ∙ sym (ren_ren (up n s i) suc (under n q) (λ j. suc (under n q j)) (λ j. refl))
    ∙ ap (ren suc) (ren_up n q s p f i)

mutual
  pub ren_sub : (t : Ty) (q : ℕ → ℕ) (s p : ℕ → Ty) → ((i : ℕ) → ren q (s i) ≡ p i) → ren q (sub s t) ≡ sub p t
  ren_sub IntTy q s p f = refl
  ren_sub (VarTy i) q s p f = f i
  ren_sub (TupleTy ts) q s p f = ap TupleTy (rens_sub ts q s p f)
  ren_sub (CodeTy n ts) q s p f = ap (CodeTy n) (rens_sub ts (under n q) (up n s) (up n p) (ren_up n q s p f))
  ren_sub (ExistsTy t) q s p f = ap ExistsTy (ren_sub t (under 1 q) (up 1 s) (up 1 p) (ren_up 1 q s p f))
  ren_sub (RefTy t) q s p f = ap RefTy (ren_sub t q s p f)

  pub rens_sub : (ts : Tys) (q : ℕ → ℕ) (s p : ℕ → Ty) → ((i : ℕ) → ren q (s i) ≡ p i) →
      rens q (subs s ts) ≡ subs p ts
  rens_sub NoTys q s p f = refl
  rens_sub (MoreTys t ts) q s p f = ap₂ MoreTys (ren_sub t q s p f) (rens_sub ts q s p f)

pub sub_up : (n : ℕ) (s r p : ℕ → Ty) → ((i : ℕ) → sub s (r i) ≡ p i) → (i : ℕ) → sub (up n s) (up n r i) ≡ up n p i
sub_up zero s r p f i = f i
sub_up (suc n) s r p f zero = refl
sub_up (suc n) s r p f (suc i) =
    sub_ren (up n r i) (up (suc n) s) suc (λ j. ren suc (up n s j)) (λ j. refl)
    ∙ sym (ren_sub (up n r i) suc (up n s) (λ j. ren suc (up n s j)) (λ j. refl))
    ∙ ap (ren suc) (sub_up n s r p f i)

mutual
  pub sub_sub : (t : Ty) (s r p : ℕ → Ty) → ((i : ℕ) → sub s (r i) ≡ p i) → sub s (sub r t) ≡ sub p t
  sub_sub IntTy s r p f = refl
  sub_sub (VarTy i) s r p f = f i
  sub_sub (TupleTy ts) s r p f = ap TupleTy (subs_sub ts s r p f)
  sub_sub (CodeTy n ts) s r p f = ap (CodeTy n) (subs_sub ts (up n s) (up n r) (up n p) (sub_up n s r p f))
  sub_sub (ExistsTy t) s r p f = ap ExistsTy (sub_sub t (up 1 s) (up 1 r) (up 1 p) (sub_up 1 s r p f))
  sub_sub (RefTy t) s r p f = ap RefTy (sub_sub t s r p f)

  pub subs_sub : (ts : Tys) (s r p : ℕ → Ty) → ((i : ℕ) → sub s (r i) ≡ p i) → subs s (subs r ts) ≡ subs p ts
  subs_sub NoTys s r p f = refl
  subs_sub (MoreTys t ts) s r p f = ap₂ MoreTys (sub_sub t s r p f) (subs_sub ts s r p f)

pub up_same : (n : ℕ) (s : ℕ → Ty) → ((i : ℕ) → s i ≡ VarTy i) → (i : ℕ) → up n s i ≡ VarTy i
up_same zero s f i = f i
up_same (suc n) s f zero = refl
up_same (suc n) s f (suc i) = ap (ren suc) (up_same n s f i)

mutual
  pub sub_same : (t : Ty) (s : ℕ → Ty) → ((i : ℕ) → s i ≡ VarTy i) → sub s t ≡ t
  sub_same IntTy s f = refl
  sub_same (VarTy i) s f = f i
  sub_same (TupleTy ts) s f = ap TupleTy (subs_same ts s f)
  sub_same (CodeTy n ts) s f = ap (CodeTy n) (subs_same ts (up n s) (up_same n s f))
  sub_same (ExistsTy t) s f = ap ExistsTy (sub_same t (up 1 s) (up_same 1 s f))
  sub_same (RefTy t) s f = ap RefTy (sub_same t s f)

  pub subs_same : (ts : Tys) (s : ℕ → Ty) → ((i : ℕ) → s i ≡ VarTy i) → subs s ts ≡ ts
  subs_same NoTys s f = refl
  subs_same (MoreTys t ts) s f = ap₂ MoreTys (sub_same t s f) (subs_same ts s f)

pub ren_none : (t : Ty) → ren (lift 0) t ≡ t
ren_none t = sym (sub_same (ren (lift 0) t) VarTy (λ i. refl)) ∙ sub_ren t VarTy (lift 0) VarTy (λ i. refl)
    ∙ sub_same t VarTy (λ i. refl)

pub scons_sub : (t : Ty) (s k p : ℕ → Ty) → ((i : ℕ) → sub s (k i) ≡ p i) → (i : ℕ) →
    sub s (with_type t k i) ≡ with_type (sub s t) p i
scons_sub t s k p f zero = refl
scons_sub t s k p f (suc i) = f i

pub names_sub : (ts : Tys) (s k p : ℕ → Ty) → ((i : ℕ) → sub s (k i) ≡ p i) → (i : ℕ) →
    sub s (with_types ts k i) ≡ with_types (subs s ts) p i
names_sub NoTys s k p f i = f i
names_sub (MoreTys t ts) s k p f i = names_sub ts s (with_type t k) (with_type (sub s t) p) (scons_sub t s k p f) i

pub with_types_past : (ts : Tys) (s : ℕ → Ty) (i : ℕ) → with_types ts s (lift (count ts) i) ≡ s i
with_types_past NoTys s i = refl
with_types_past (MoreTys t ts) s i =
    ap (with_types ts (with_type t s)) (sym (lift_suc (count ts) i)) ∙ with_types_past ts (with_type t s) (suc i)

pub low_or_past : (m i : ℕ) → (i < m) ⊎ ((j : ℕ) × (i ≡ lift m j))
low_or_past zero i = inr (i, refl)
low_or_past (suc m) zero = inl (omega arith)
low_or_past (suc m) (suc i) = ⊎_elim (λ h. inl (omega (arith, h))) (λ h. inr (h.0, ap suc h.1)) (low_or_past m i)

pub names_low : (ts : Tys) (s p : ℕ → Ty) (i : ℕ) → i < count ts → with_types ts s i ≡ with_types ts p i
names_low NoTys s p i h = absurd (omega arith)
names_low (MoreTys t ts) s p i h =
    ⊎_elim (λ l. names_low ts (with_type t s) (with_type t p) i l)
    (λ l. ap (with_types ts (with_type t s)) l.1 ∙ with_types_past ts (with_type t s) l.0 ∙ first l.0 l.1
    ∙ sym (with_types_past ts (with_type t p) l.0) ∙ ap (with_types ts (with_type t p)) (sym l.1))
    (low_or_past (count ts) i)
  where
    lift_more : (m j : ℕ) → lift m (suc j) < suc m → ⊥
    lift_more zero j q = absurd (omega arith)
    lift_more (suc m) j q = lift_more m j (omega arith)

    first : (j : ℕ) → i ≡ lift (count ts) j → with_type t s j ≡ with_type t p j
    first zero e = refl
    first (suc j) e = absurd (lift_more (count ts) j (subst (λ k. k < suc (count ts)) e h))

pub up_low : (m : ℕ) (s : ℕ → Ty) (i : ℕ) → i < m → up m s i ≡ VarTy i
up_low zero s i h = absurd (omega arith)
up_low (suc m) s zero h = refl
up_low (suc m) s (suc i) h = ap (ren suc) (up_low m s i (omega arith))

pub up_past : (m : ℕ) (s : ℕ → Ty) (j : ℕ) → up m s (lift m j) ≡ ren (lift m) (s j)
up_past zero s j = sym (ren_none (s j))
up_past (suc m) s j = ap (ren suc) (up_past m s j) ∙ ren_ren (s j) suc (lift m) (lift (suc m)) (λ i. refl)

pub names_up : (ts : Tys) (s : ℕ → Ty) (i : ℕ) → sub (with_types ts VarTy) (up (count ts) s i) ≡ with_types ts s i
names_up ts s i =
    ⊎_elim (λ h. ap (sub (with_types ts VarTy)) (up_low (count ts) s i h) ∙ names_low ts VarTy s i h)
    (λ h. ap (λ k. sub (with_types ts VarTy) (up (count ts) s k)) h.1
    ∙ ap (sub (with_types ts VarTy)) (up_past (count ts) s h.0)
    ∙ sub_ren (s h.0) (with_types ts VarTy) (lift (count ts)) VarTy (with_types_past ts VarTy)
    ∙ sub_same (s h.0) VarTy (λ j. refl)
    ∙ sym (with_types_past ts s h.0) ∙ ap (with_types ts s) (sym h.1))
    (low_or_past (count ts) i)

pub up_up : (m n : ℕ) (s : ℕ → Ty) (i : ℕ) → up (lift m n) s i ≡ up m (up n s) i
up_up zero n s i = refl
up_up (suc m) n s zero = refl
up_up (suc m) n s (suc i) = ap (ren suc) (up_up m n s i)

pub subs_count : (s : ℕ → Ty) (ts : Tys) → count (subs s ts) ≡ count ts
subs_count s NoTys = refl
subs_count s (MoreTys t ts) = ap suc (subs_count s ts)

-- types put for names under o more, and then types for variables
pub named_sub : (o : ℕ) (ts us : Tys) (s : ℕ → Ty) → subs (up o s) (subs (up o (with_types ts VarTy)) us)
    ≡ subs (up o (with_types (subs s ts) VarTy)) (subs (up (lift o (count ts)) s) us)
named_sub o ts us s =
    subs_sub us (up o s) (up o (with_types ts VarTy)) (up o (with_types ts' s))
    (sub_up o s (with_types ts VarTy) (with_types ts' s) (names_sub ts s VarTy s (λ i. refl)))
    ∙ sym (subs_sub us (up o (with_types ts' VarTy)) (up (lift o (count ts)) s) (up o (with_types ts' s))
    (λ i. ap (sub (up o (with_types ts' VarTy))) (up_up o (count ts) s i)
    ∙ sub_up o (with_types ts' VarTy) (up (count ts) s) (with_types ts' s)
    (λ j. subst (λ m. sub (with_types ts' VarTy) (up m s j) ≡ with_types ts' s j) (subs_count s ts) (names_up ts' s j))
    i))
  where
    ts' : Tys
    ts' = subs s ts
