-- Files: registers in ascending order, a type put in, and frames.
use Rattle.std.proofs.Common.{◌≡◌, ℕ, suc, ◌<◌, ◌≤◌, nat_eq, nat_lt, cond, Bool, true, false, List, [], ◌∷◌, ◌++◌}
use Rattle.std.proofs.Common.{length, Option, Some, None, refl, sym, ap, ap₂, ◌∙◌, subst, arith, inl, inr, ◌⊎◌}
use Rattle.std.specs.Prelude.{◌≢◌, option_map}
use Rattle.std.proofs.Math.Path.{fun_ext}
use Rattle.std.proofs.lemmas.Bool.{eq-eqb, eqb-true, ne_eqb, cases_lt, cases_eq, lt-ltb, le-ltb}
use Rattle.idx_core.specs.Over.{At}
use Rattle.t_types.specs.Tree.{Ty, TupleTy, TFile, NoRegs, MoreRegs, TFields, MoreFields, over_file, shift, shift_file}
use Rattle.t_types.specs.Fields.{AField, field, filled}
use Rattle.t_types.proofs.FitsLaws.{fits_same}
use Rattle.t_types.specs.Fits.{FitsFile, RegTypes, lookup}
use Rattle.t_terms.specs.Registers.{with_reg, raised}
use Rattle.t_spill_rules.specs.Spill.{sp, sp_regs, frame, with_if, without_if, high_part, low_part, split, frame_reg}
use Rattle.t_spill_rules.specs.Spill.{numbers, position, ins}
use Rattle.t_spill_laws.proofs.TypeLaws.{fits_sp}

pub look_same : {A : Type 0} (g : ℕ → Option A) (r : ℕ) (t : A) → with_reg g r t r ≡ Some t
look_same g r t = ap (λ b. cond b (Some t) (g r)) (eq-eqb r r refl)

pub look_other : {A : Type 0} (g : ℕ → Option A) (r q : ℕ) (t : A) → q ≢ r → with_reg g r t q ≡ g q
look_other g r q t ne = ap (λ b. cond b (Some t) (g q)) (ne_eqb r q (λ e. ne (sym e)))

-- each register is above the one before it
abbrev pub RisesFrom : ℕ → TFile → Type 0
RisesFrom low NoRegs = Unit {0}
RisesFrom low (MoreRegs r t x) = (low < r) × RisesFrom r x

abbrev pub Ascends : TFile → Type 0
Ascends NoRegs = Unit {0}
Ascends (MoreRegs r t x) = RisesFrom r x

pub rises_ascends : (low : ℕ) (x : TFile) → RisesFrom low x → Ascends x
rises_ascends low NoRegs h = tt
rises_ascends low (MoreRegs r t x) h = h.1

-- a file with a type put in
abbrev pub CaseOf : ℕ → ℕ → Type 0
CaseOf r q = (r < q) ⊎ ((r ≡ q) ⊎ (q < r))

pub case_of : (r q : ℕ) → CaseOf r q
case_of r q = go (cases_lt r q) (cases_lt q r)
  where
    go : (r < q) ⊎ (q ≤ r) → (q < r) ⊎ (r ≤ q) → CaseOf r q
    go (inl a) b = inl a
    go (inr a) (inl b) = inr (inr b)
    go (inr a) (inr b) = let e : r ≡ q = omega arith in inr (inl e)

pub ins_less : (r q : ℕ) (t u : Ty) (x : TFile) → r < q → ins r t (MoreRegs q u x) ≡ MoreRegs r t (MoreRegs q u x)
ins_less r q t u x h =
    ap (λ b. cond b (MoreRegs r t (MoreRegs q u x)) (cond (nat_eq r q) (MoreRegs r t x) (MoreRegs q u (ins r t x))))
    (lt-ltb r q h)

pub ins_same : (r q : ℕ) (t u : Ty) (x : TFile) → r ≡ q → ins r t (MoreRegs q u x) ≡ MoreRegs r t x
ins_same r q t u x h =
    let no : q ≤ r = omega arith in
    ap₂ (λ b c. cond b (MoreRegs r t (MoreRegs q u x)) (cond c (MoreRegs r t x) (MoreRegs q u (ins r t x))))
    (le-ltb r q no) (eq-eqb r q h)

pub ins_more : (r q : ℕ) (t u : Ty) (x : TFile) → q < r → ins r t (MoreRegs q u x) ≡ MoreRegs q u (ins r t x)
ins_more r q t u x h =
    let no : q ≤ r = omega arith in
    ap₂ (λ b c. cond b (MoreRegs r t (MoreRegs q u x)) (cond c (MoreRegs r t x) (MoreRegs q u (ins r t x))))
    (le-ltb r q no) (ne_eqb r q (λ e. absurd (omega arith)))

pub rises_ins : (low r : ℕ) (t : Ty) (x : TFile) → low < r → RisesFrom low x → RisesFrom low (ins r t x)
rises_ins low r t NoRegs lt h = (lt, tt)
rises_ins low r t (MoreRegs q u x) lt h = go (λ a. rises_ins q r t x a h.1) (case_of r q)
  where
    go : (q < r → RisesFrom q (ins r t x)) → CaseOf r q → RisesFrom low (ins r t (MoreRegs q u x))
    go f (inl a) = subst (RisesFrom low) (sym (ins_less r q t u x a)) (lt, (a, h.1))
    go f (inr (inl a)) =
        subst (RisesFrom low) (sym (ins_same r q t u x a)) (lt, subst (λ z. RisesFrom z x) (sym a) h.1)
    go f (inr (inr a)) = subst (RisesFrom low) (sym (ins_more r q t u x a)) (h.0, f a)

pub ascends_ins : (r : ℕ) (t : Ty) (x : TFile) → Ascends x → Ascends (ins r t x)
ascends_ins r t NoRegs h = tt
ascends_ins r t (MoreRegs q u x) h = go (case_of r q)
  where
    go : CaseOf r q → Ascends (ins r t (MoreRegs q u x))
    go (inl a) = subst Ascends (sym (ins_less r q t u x a)) (a, h)
    go (inr (inl a)) = subst Ascends (sym (ins_same r q t u x a)) (subst (λ z. RisesFrom z x) (sym a) h)
    go (inr (inr a)) = subst Ascends (sym (ins_more r q t u x a)) (rises_ins q r t x a h)

pub rises_over : (f : At Ty) (d low : ℕ) (x : TFile) → RisesFrom low x → RisesFrom low (over_file f d x)
rises_over f d low NoRegs h = tt
rises_over f d low (MoreRegs r t x) h = (h.0, rises_over f d r x h.1)

pub ascends_over : (f : At Ty) (d : ℕ) (x : TFile) → Ascends x → Ascends (over_file f d x)
ascends_over f d NoRegs h = tt
ascends_over f d (MoreRegs r t x) h = rises_over f d r x h

ins_at : (r : ℕ) (t : Ty) (x : TFile) (p : ℕ) → lookup (ins r t x) p ≡ with_reg (lookup x) r t p
ins_at r t NoRegs p = refl
ins_at r t (MoreRegs q u x) p = go (ins_at r t x p) (case_of r q)
  where
    swap : (a b : Bool) (y z w : Option Ty) → (a ≡ true → b ≡ true → ⊥) → cond a y (cond b z w) ≡ cond b z (cond a y w)
    swap true true y z w h = absurd (h refl refl)
    swap true false y z w h = refl
    swap false true y z w h = refl
    swap false false y z w h = refl

    twice : (a : Bool) (y z w : Option Ty) → cond a y w ≡ cond a y (cond a z w)
    twice true y z w = refl
    twice false y z w = refl

    apart : q < r → nat_eq q p ≡ true → nat_eq r p ≡ true → ⊥
    apart lt a b = absurd (no (cases_eq q p) (cases_eq r p))
      where
        no : (q ≡ p) ⊎ (q ≢ p) → (r ≡ p) ⊎ (r ≢ p) → ⊥
        no (inl x) (inl y) = absurd (omega arith)
        no (inl x) (inr y) = let f : false ≡ true = sym (ne_eqb r p y) ∙ b in cc
        no (inr x) y = let f : false ≡ true = sym (ne_eqb q p x) ∙ a in cc

    go : lookup (ins r t x) p ≡ with_reg (lookup x) r t p → CaseOf r q →
        lookup (ins r t (MoreRegs q u x)) p ≡ with_reg (lookup (MoreRegs q u x)) r t p
    go f (inl a) = ap (λ y. lookup y p) (ins_less r q t u x a)
    go f (inr (inl a)) =
        ap (λ y. lookup y p) (ins_same r q t u x a)
        ∙ twice (nat_eq r p) (Some t) (Some u) (lookup x p)
        ∙ ap (λ z. cond (nat_eq r p) (Some t) (cond (nat_eq z p) (Some u) (lookup x p))) a
    go f (inr (inr a)) =
        ap (λ y. lookup y p) (ins_more r q t u x a)
        ∙ ap (cond (nat_eq q p) (Some u)) f
        ∙ swap (nat_eq q p) (nat_eq r p) (Some u) (Some t) (lookup x p) (apart a)

pub lookup_ins : (r : ℕ) (t : Ty) (x : TFile) → lookup (ins r t x) ≡ with_reg (lookup x) r t
lookup_ins r t x = fun_ext (λ p. ins_at r t x p)

raised_at : (x : TFile) (q : ℕ) → raised (lookup x) q ≡ lookup (shift_file 1 0 x) q
raised_at NoRegs q = refl
raised_at (MoreRegs r t x) q = both (nat_eq r q) (lookup x q) (raised_at x q)
  where
    both : (b : Bool) (o : Option Ty) → option_map (shift 1 0) o ≡ lookup (shift_file 1 0 x) q →
        option_map (shift 1 0) (cond b (Some t) o) ≡ cond b (Some (shift 1 0 t)) (lookup (shift_file 1 0 x) q)
    both true o e = refl
    both false o e = e

pub raised_lookup : (x : TFile) → raised (lookup x) ≡ lookup (shift_file 1 0 x)
raised_lookup x = fun_ext (λ q. raised_at x q)

-- a file fits itself
fits_more : (g : RegTypes) (r : ℕ) (t : Ty) (low : ℕ) (x : TFile) → r ≤ low → RisesFrom low x → FitsFile g x →
    FitsFile (with_reg g r t) x
fits_more g r t low NoRegs le h k = tt
fits_more g r t low (MoreRegs q u x) le h k =
    let lt = h.0 in
    let other : with_reg g r t q ≡ g q = look_other g r q t (λ e. absurd (omega arith)) in
    ((k.0.0, other ∙ k.0.1, k.0.2), fits_more g r t q x (omega arith) h.1 k.1)

pub fits_self : (x : TFile) → Ascends x → FitsFile (lookup x) x
fits_self NoRegs h = tt
fits_self (MoreRegs r t x) h = (
  (t, look_same (lookup x) r t, fits_same t),
  fits_more (lookup x) r t r x (omega arith) h (fits_self x (rises_ascends r x h)),
)

-- a register's field in a frame
frame_case : (q : ℕ) (u : Ty) (x : TFile) (r : ℕ) (t : Ty) (b : Bool) →
    (lookup x r ≡ Some t → field (frame x) (position (numbers x) r) ≡ Some (AField t true)) →
    cond b (Some u) (lookup x r) ≡ Some t →
    field (frame (MoreRegs q u x)) (cond b 0 (suc (position (numbers x) r))) ≡ Some (AField t true)
frame_case q u x r t true f e = let same : u ≡ t = cc in ap (λ y. Some (AField y true)) same
frame_case q u x r t false f e = f e

pub frame_at : (x : TFile) (r : ℕ) (t : Ty) → lookup x r ≡ Some t →
    field (frame x) (position (numbers x) r) ≡ Some (AField t true)
frame_at NoRegs r t e = cc
frame_at (MoreRegs q u x) r t e = frame_case q u x r t (nat_eq q r) (λ k. frame_at x r t k) e

-- the parts of a file
with_look : (b : Bool) (q : ℕ) (u : Ty) (x y : TFile) (r : ℕ) → lookup x r ≡ lookup y r →
    (nat_eq q r ≡ true → b ≡ true) →
    lookup (with_if b q u x) r ≡ cond (nat_eq q r) (Some u) (lookup y r)
with_look true q u x y r e k = ap (cond (nat_eq q r) (Some u)) e
with_look false q u x y r e k = go (nat_eq q r) k
  where
    go : (c : Bool) → (c ≡ true → false ≡ true) → lookup x r ≡ cond c (Some u) (lookup y r)
    go true z = let w : false ≡ true = z refl in cc
    go false z = e

pub high_look : (m : ℕ) (x : TFile) (r : ℕ) → m < r → lookup (high_part m x) r ≡ lookup x r
high_look m NoRegs r lt = refl
high_look m (MoreRegs q u x) r lt =
    with_look (nat_lt m q) q u (high_part m x) x r (high_look m x r lt)
    (λ e. let s = eqb-true q r e in lt-ltb m q (omega (arith, s, lt)))

without_look : (b : Bool) (q : ℕ) (u : Ty) (x y : TFile) (r : ℕ) → lookup x r ≡ lookup y r →
    (nat_eq q r ≡ true → b ≡ false) →
    lookup (without_if b q u x) r ≡ cond (nat_eq q r) (Some u) (lookup y r)
without_look false q u x y r e k = ap (cond (nat_eq q r) (Some u)) e
without_look true q u x y r e k = go (nat_eq q r) k
  where
    go : (c : Bool) → (c ≡ true → true ≡ false) → lookup x r ≡ cond c (Some u) (lookup y r)
    go true z = let w : true ≡ false = z refl in cc
    go false z = e

low_look : (m : ℕ) (x y : TFile) (r : ℕ) → r ≤ m → lookup y r ≡ None → lookup (low_part m x y) r ≡ lookup x r
low_look m NoRegs y r le e = e
low_look m (MoreRegs q u x) y r le e =
    without_look (nat_lt m q) q u (low_part m x y) x r (low_look m x y r le e)
    (λ k. let s = eqb-true q r k in le-ltb m q (omega (arith, s, le)))

-- a register up to m stays
pub split_low : (m : ℕ) (x : TFile) (r : ℕ) → r ≤ m → lookup (split m x) r ≡ lookup x r
split_low m x r le =
    low_look m x (MoreRegs (frame_reg m) (TupleTy (frame (high_part m x))) NoRegs) r le
    (ap (λ b. cond b (Some (TupleTy (frame (high_part m x)))) None) (ne_eqb (suc m) r (λ e. absurd (omega arith))))

low_past : (m : ℕ) (x y : TFile) (r : ℕ) → m < r → lookup (low_part m x y) r ≡ lookup y r
low_past m NoRegs y r lt = refl
low_past m (MoreRegs q u x) y r lt = go (nat_lt m q) refl (low_past m x y r lt)
  where
    go : (b : Bool) → nat_lt m q ≡ b → lookup (low_part m x y) r ≡ lookup y r →
        lookup (without_if b q u (low_part m x y)) r ≡ lookup y r
    go true k e = e
    go false k e = ap (λ c. cond c (Some u) (lookup (low_part m x y) r)) (ne_eqb q r (λ s. apart s (cases_lt m q))) ∙ e
      where
        apart : q ≡ r → (m < q) ⊎ (q ≤ m) → ⊥
        apart s (inl a) = let z : false ≡ true = sym k ∙ lt-ltb m q a in cc
        apart s (inr a) = absurd (omega arith)

pub split_frame : (m : ℕ) (x : TFile) → lookup (split m x) (frame_reg m) ≡ Some (TupleTy (frame (high_part m x)))
split_frame m x =
    low_past m x (MoreRegs (frame_reg m) (TupleTy (frame (high_part m x))) NoRegs) (frame_reg m) (omega arith)
    ∙ look_same (lookup NoRegs) (frame_reg m) (TupleTy (frame (high_part m x)))

-- types spilled
pub regs_look : (m : ℕ) (x : TFile) (r : ℕ) → lookup (sp_regs m x) r ≡ option_map (sp m) (lookup x r)
regs_look m NoRegs r = refl
regs_look m (MoreRegs q u x) r = go (nat_eq q r) (regs_look m x r)
  where
    go : (b : Bool) → lookup (sp_regs m x) r ≡ option_map (sp m) (lookup x r) →
        cond b (Some (sp m u)) (lookup (sp_regs m x) r) ≡ option_map (sp m) (cond b (Some u) (lookup x r))
    go true e = refl
    go false e = e

pub look_sp : (m : ℕ) (x : TFile) (r : ℕ) (t : Ty) → lookup x r ≡ Some t → lookup (sp_regs m x) r ≡ Some (sp m t)
look_sp m x r t e = regs_look m x r ∙ ap (option_map (sp m)) e

pub numbers_regs : (m : ℕ) (x : TFile) → numbers (sp_regs m x) ≡ numbers x
numbers_regs m NoRegs = refl
numbers_regs m (MoreRegs r t x) = ap (λ (qs : List ℕ). r ∷ qs) (numbers_regs m x)

-- a file's parts fit where it does
pub fits_high : (g : RegTypes) (m : ℕ) (x : TFile) → FitsFile g x → FitsFile g (high_part m x)
fits_high g m NoRegs h = tt
fits_high g m (MoreRegs r t x) h = go (nat_lt m r) (fits_high g m x h.1)
  where
    go : (b : Bool) → FitsFile g (high_part m x) → FitsFile g (with_if b r t (high_part m x))
    go true k = (h.0, k)
    go false k = k

fits_low : (m : ℕ) (k g : RegTypes) (x y : TFile) → ((r : ℕ) (t : Ty) → r ≤ m → k r ≡ Some t → g r ≡ Some (sp m t)) →
    FitsFile k x →
    FitsFile g y → FitsFile g (low_part m (sp_regs m x) y)
fits_low m k g NoRegs y low h f = f
fits_low m k g (MoreRegs r t x) y low h f = go (nat_lt m r) refl (fits_low m k g x y low h.1 f)
  where
    go : (b : Bool) → nat_lt m r ≡ b → FitsFile g (low_part m (sp_regs m x) y) →
        FitsFile g (without_if b r (sp m t) (low_part m (sp_regs m x) y))
    go true e z = z
    go false e z = ((sp m h.0.0, low r h.0.0 (below (cases_lt m r)) h.0.1, fits_sp m h.0.0 t h.0.2), z)
      where
        below : (m < r) ⊎ (r ≤ m) → r ≤ m
        below (inl a) = let w : false ≡ true = sym e ∙ lt-ltb m r a in cc
        below (inr a) = a

-- what is known of the registers up to m and of the frame
pub fits_split : (m : ℕ) (k g : RegTypes) (x : TFile) →
    ((r : ℕ) (t : Ty) → r ≤ m → k r ≡ Some t → g r ≡ Some (sp m t)) → FitsFile k x →
    g (frame_reg m) ≡ Some (TupleTy (frame (high_part m (sp_regs m x)))) → FitsFile g (split m (sp_regs m x))
fits_split m k g x low h e =
    fits_low m k g x (MoreRegs (frame_reg m) (TupleTy (frame (high_part m (sp_regs m x)))) NoRegs) low h
    ((TupleTy (frame (high_part m (sp_regs m x))), e, fits_same (TupleTy (frame (high_part m (sp_regs m x))))), tt)

-- fields that are filled, in front of others
abbrev pub prefix : List Ty → TFields → TFields
prefix [] fs = fs
prefix (t ∷ ts) fs = MoreFields t true (prefix ts fs)

pub prefix_more : (ts : List Ty) (t : Ty) (fs : TFields) →
    prefix (ts ++ (t ∷ [])) fs ≡ prefix ts (MoreFields t true fs)
prefix_more [] t fs = refl
prefix_more (u ∷ ts) t fs = ap (MoreFields u true) (prefix_more ts t fs)

pub field_prefix : (ts : List Ty) (t : Ty) (b : Bool) (fs : TFields) →
    field (prefix ts (MoreFields t b fs)) (length ts) ≡ Some (AField t b)
field_prefix [] t b fs = refl
field_prefix (u ∷ ts) t b fs = field_prefix ts t b fs

pub filled_prefix : (ts : List Ty) (t : Ty) (b : Bool) (fs : TFields) →
    filled (prefix ts (MoreFields t b fs)) (length ts) ≡ prefix ts (MoreFields t true fs)
filled_prefix [] t b fs = refl
filled_prefix (u ∷ ts) t b fs = ap (MoreFields u true) (filled_prefix ts t b fs)
