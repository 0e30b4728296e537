-- The types of values in place, and the code of declarations, calls and terms, for any property of types that is
-- carried.
use Rattle.std.proofs.Common.{length-append, ◌≡◌, ℕ, zero, suc, ◌+◌, ◌-◌, ◌≤◌, List, [], ◌∷◌, ◌++◌, length, Some, refl}
use Rattle.std.proofs.Common.{sym, ap, ap₂, ◌∙◌, subst, arith, inl, inr, slice_get}
use Rattle.std.specs.Prelude.{◌==◌, nat_lt, Bool, cond}
use Rattle.std.proofs.lemmas.Bool.{cond_both}
use Rattle.idx_core.specs.Laws as law
use Rattle.a_terms.specs.Tree.{ATy, AInt, AVar, ATuple, ACode, AExists, ATys, NoATys, MoreATys, AFields, NoAFields}
use Rattle.a_terms.specs.Tree.{MoreAFields, AVal, ABlk, AConsts, AProg, arity, ashift, ABelow, ABelow-types}
use Rattle.a_terms.specs.Tree.{ABelow-fields}
use Rattle.a_terms.specs.Typing.{aapply, data_fields, All-have}
use Rattle.a_terms.specs.TypeLaws.{All-below}
use Rattle.a_terms.specs.Each.{AProp, AAll}
use Rattle.t_types.specs.Tree.{Ty, IntTy, VarTy, CodeTy, ExistsTy, TupleTy, TFile, NoRegs, MoreRegs, TFields, shift}
use Rattle.t_types.specs.Tree.{shift_file, put_file, Below, BelowFile, BelowFields, BelowTypes}
use Rattle.t_types.specs.TreeLaws.{types_part, types_each, file_over, file_each}
use Rattle.t_types.specs.Fits.{Fits, FieldsFit, RegTypes}
use Rattle.t_types.proofs.FitsLaws.{fields_fit_same, fits_cases}
use Rattle.t_terms.specs.Tree as T
use Rattle.t_terms.specs.Tree.{TBase, TValue, TProg}
use Rattle.t_terms.specs.Registers.{no_types, inst_file}
use Rattle.t_rules.specs.Rules as R
use Rattle.t_rules.specs.Rules.{BaseHas}
use Rattle.t_gen_rules.specs.Gen.{ty, ty_args, ty_fields, tys, applied_to, tvars, insert, header}
use Rattle.t_gen_laws.specs.TypesEach.{TProp}
use Rattle.t_gen_laws.proofs.TypeLaws.{apply_is, apply_vars, length_tvars}

mutual
  pub below_ty : (t : ATy) (n : ℕ) → ABelow n t → Below n (ty t)
  below_ty AInt n b = tt
  below_ty (AVar i) n b = b
  below_ty (ATuple fs) n b = below_fields fs n b
  below_ty (ACode owes ts) n b = (tt, below_ty_args ts (n + owes) 1 b.1)
  below_ty (AExists t) n b = (tt, below_ty t (n + 1) b.1)

  pub below_ty_args : (ts : ATys) (n r : ℕ) → ABelow-types n ts → BelowFile n (ty_args ts r)
  below_ty_args NoATys n r b = tt
  below_ty_args (MoreATys t ts) n r b = (below_ty t n b.0, below_ty_args ts n (suc r) b.1)

  below_fields : (fs : AFields) (n : ℕ) → ABelow-fields n fs → BelowFields n (ty_fields fs)
  below_fields NoAFields n b = tt
  below_fields (MoreAFields t f fs) n b = (below_ty t n b.0, below_fields fs n b.1)

pub below_tys : (ts : ATys) (n : ℕ) → ABelow-types n ts → BelowTypes n (tys ts)
below_tys NoATys n b = tt
below_tys (MoreATys t ts) n b = (below_ty t n b.0, below_tys ts n b.1)

pub below_tvars : (n k : ℕ) → n ≤ k → BelowTypes k (tvars n)
below_tvars zero k l = tt
below_tvars (suc n) k l = (omega arith, below_tvars n k (omega arith))

below_insert : (k r : ℕ) (t : Ty) (f : TFile) → Below k t → BelowFile k f → BelowFile k (insert r t f)
below_insert k r t NoRegs b h = (b, tt)
below_insert k r t (MoreRegs q u f) b h =
    cond_both (r == q) (MoreRegs r t f)
    (cond (nat_lt r q) (MoreRegs r t (MoreRegs q u f)) (MoreRegs q u (insert r t f))) (BelowFile k)
    (λ c. (b, h.1))
    (λ c. cond_both (nat_lt r q) (MoreRegs r t (MoreRegs q u f)) (MoreRegs q u (insert r t f)) (BelowFile k)
    (λ d. (b, h)) (λ d. (h.0, below_insert k r t f b h.1)))

pub below_header : (k : ℕ) (u : ℕ → Bool) (m : List ℕ) (g : List ATy) → All-below k g → BelowFile k (header u m g)
below_header k u m [] b = tt
below_header k u [] (t ∷ g) b = tt
below_header k u (r ∷ m) (t ∷ g) b =
    let f = header (λ n. u (suc n)) m g in
    let rest = below_header k (λ n. u (suc n)) m g b.1 in
    cond_both (u 0) (insert r (ty t) f) f (BelowFile k) (λ c. below_insert k r (ty t) f (below_ty t k b.0) rest)
    (λ c. rest)

-- a type that fits another one
pub same_fits : (u s : Ty) → Fits u s → ((fs : TFields) → s ≡ TupleTy fs → ⊥) → u ≡ s
same_fits u s h other = elim (fits_cases u s h) [ inl e ↦ e | inr k ↦ absurd (other k.1 k.3) ]

pub tuple_fits : (u : Ty) (fs : TFields) → Fits u (TupleTy fs) → (gs : TFields) × (u ≡ TupleTy gs) × FieldsFit gs fs
tuple_fits (TupleTy gs) fs h = (gs, refl, h)
tuple_fits u fs e = (fs, e, fields_fit_same fs)

pub int_no_tuple : (fs : TFields) → IntTy ≡ TupleTy fs → ⊥
int_no_tuple fs e = cc

pub code_no_tuple : (n : ℕ) (f : TFile) (fs : TFields) → CodeTy n f ≡ TupleTy fs → ⊥
code_no_tuple n f fs e = cc

pub exists_no_tuple : (t : Ty) (fs : TFields) → ExistsTy t ≡ TupleTy fs → ⊥
exists_no_tuple t fs e = cc

-- each label has the type of its block, and each data label that of its tuple
pub record Labels (p : AProg) (P : TProg) : Type 0 where
  pub blocks : (l : ℕ) (b : ABlk) → slice_get p.blocks l ≡ Some b →
      BaseHas P no_types (T.Label (suc l)) (CodeTy b.owes (ty_args b.args 1))
  pub tuples : (n : ℕ) (x : AConsts) → slice_get p.tuples n ≡ Some x →
      BaseHas P no_types (T.Data n) (TupleTy (ty_fields (data_fields x)))

module _ (p : AProg) (P : TProg) (labels : Labels p P) where
  -- the variables of types in scope, given to the code of a file under them
  pub has_vars : (f : RegTypes) (b : TBase) (k : ℕ) (x : TFile) → BelowFile k x → BaseHas P f b (CodeTy k x) →
      R.Has P k f (T.Plain b (tvars k)) (CodeTy 0 x)
  has_vars f b zero x below h = h
  has_vars f b (suc k) x below h =
      let n = length_tvars (suc k) in
      let none : 0 ≡ suc k - length (tvars (suc k)) = omega arith in
      let same : shift_file (suc k) (suc k) x ≡ x =
      law.shift_below types_part types_each file_over file_each (suc k) (suc k) (suc k) x (omega arith) below in
      let inst : x ≡ inst_file (tvars (suc k)) (suc k) x =
      sym (apply_vars (suc k) x) ∙ ap (inst_file (tvars (suc k)) (suc k)) same in
      (suc k, x, h, omega arith, ap₂ CodeTy none inst, below_tvars (suc k) (suc k) (omega arith))

-- values applied to types
module _ (p : AProg) (P : TProg) (labels : Labels p P) where
  inst_append : (us ts : List Ty) (n : ℕ) (f : TFile) →
      inst_file (us ++ ts) n f ≡ inst_file ts (n - length us) (inst_file us n f)
  inst_append [] ts n f = let z : n ≡ n - 0 = omega arith in ap (λ i. inst_file ts i f) z
  inst_append (u ∷ us) ts n f =
      let g = put_file (n - 1) (shift (n - 1) 0 u) f in
      let z : n - 1 - length us ≡ n - length (u ∷ us) = omega arith in
      inst_append us ts (n - 1) g ∙ ap (λ i. inst_file ts i (inst_file us (n - 1) g)) z

  both_below : (k : ℕ) (us ts : List Ty) → BelowTypes k us → BelowTypes k ts → BelowTypes k (us ++ ts)
  both_below k [] ts a b = b
  both_below k (u ∷ us) ts a b = (a.0, both_below k us ts a.1 b)

  -- a base applied to types, and then to more
  has_more : (k : ℕ) (g : RegTypes) (b : TBase) (us ts : List Ty) (m : ℕ) (f : TFile) →
      R.Has P k g (T.Plain b us) (CodeTy m f) → length ts ≤ m → BelowTypes k ts →
      R.Has P k g (T.Plain b (us ++ ts)) (CodeTy (m - length ts) (inst_file ts m f))
  has_more k g b [] [] m f h le z = let e : m ≡ m - 0 = omega arith in subst (λ i. BaseHas P g b (CodeTy i f)) e h
  has_more k g b [] (t ∷ ts) m f h le z = (m, f, h, le, refl, z)
  has_more k g b (u ∷ us) ts m f h le z =
      let file = inst_file (u ∷ us) h.0 h.1 in
      let count : m ≡ h.0 - length (u ∷ us) = cc in
      let same : f ≡ file = cc in
      let len = length-append (u ∷ us) ts in
      let left : m - length ts ≡ h.0 - length ((u ∷ us) ++ ts) = omega (arith, len, count) in (
        h.0,
        h.1,
        h.2,
        omega (arith, len, count, le, h.3),
        ap₂ CodeTy left (ap₂ (λ i x. inst_file ts i x) count same ∙ sym (inst_append (u ∷ us) ts h.0 h.1)),
        both_below k (u ∷ us) ts h.5 z,
      )

  no_more : (us : List Ty) → us ++ [] ≡ us
  no_more [] = refl
  no_more (u ∷ us) = ap (λ x. u ∷ x) (no_more us)

  pub applied_none : (w : TValue) → applied_to w [] ≡ w
  applied_none (T.Plain b us) = ap (T.Plain b) (no_more us)
  applied_none (T.Pack h v s) = refl

  -- code alone takes types
  pub takes_types : (us : ATys) (u s t : ATy) → aapply s (MoreATys u us) ≡ Some t →
      (n : ℕ) × (vs : ATys) × (s ≡ ACode n vs)
  takes_types us u AInt t e = cc
  takes_types us u (AVar n) t e = cc
  takes_types us u (ATuple fs) t e = cc
  takes_types us u (ACode n vs) t e = (n, vs, refl)
  takes_types us u (AExists v) t e = cc

  pub applied_has : (k : ℕ) (g : RegTypes) (w : TValue) (ts : ATys) (s t : ATy) → aapply s ts ≡ Some t →
      ABelow-types k ts → R.Has P k g w (ty s) → R.Has P k g (applied_to w (tys ts)) (ty t)
  applied_has k g w NoATys s t e z h =
      let x : s ≡ t = cc in
      subst (λ v. R.Has P k g v (ty t)) (sym (applied_none w)) (subst (λ u. R.Has P k g w (ty u)) x h)
  applied_has k g (T.Plain b us) (MoreATys u ts) s t e z h =
      let c = takes_types ts u s t e in
      let r = apply_is (MoreATys u ts) c.0 c.1 t (ap (λ q. aapply q (MoreATys u ts)) (sym c.2) ∙ e) in
      let h2 = subst (λ q. R.Has P k g (T.Plain b us) (ty q)) c.2 h in
      subst (λ q. R.Has P k g (T.Plain b (us ++ tys (MoreATys u ts))) q) (sym r.1)
      (has_more k g b us (tys (MoreATys u ts)) c.0 (ty_args c.1 1) h2 r.0 (below_tys (MoreATys u ts) k z))
  applied_has k g (T.Pack x v w) (MoreATys u ts) s t e z h =
      let c = takes_types ts u s t e in
      absurd (clash (sym (ap ty c.2) ∙ h.5 ∙ h.3))
    where
      clash : {n : ℕ} {f : TFile} {q : Ty} → CodeTy n f ≡ ExistsTy q → ⊥
      clash y = cc

pub have_length : (p : AProg) (k : ℕ) (g : List ATy) (vs : List AVal) (us : ATys) → All-have p k g vs us →
    length vs ≡ arity us
have_length p k g [] NoATys a = refl
have_length p k g [] (MoreATys t ts) a = absurd a
have_length p k g (v ∷ vs) NoATys a = absurd a
have_length p k g (v ∷ vs) (MoreATys t ts) a = ap suc (have_length p k g vs ts a.1)

-- each type in scope has it
abbrev pub All-of : (ATy → Type 0) → List ATy → Type 0
All-of S [] = Unit {0}
All-of S (t ∷ g) = S t × All-of S g

-- a property of allocated types, and one of assembly types that it carries over to
pub record Carried (A : AProp) (N : ℕ → Type 0) (S : ATy → Type 0) (Q : TProp) : Type 0 where
  pub names : (k : ℕ) (t : ATy) → A k t → N k
  pub part : (k : ℕ) (t : ATy) → A k t → S t
  pub none : (k : ℕ) → N k → N 0
  pub ints : (k : ℕ) → N k → S AInt
  pub shifted : (t : ATy) → S t → S (ashift 1 0 t)
  pub of_type : (k : ℕ) (t : ATy) (u : Ty) → N k → S t → Fits u (ty t) → Q k u
  pub of_var : (k i : ℕ) → N k → Q k (VarTy i)
  pub of_third : (k n : ℕ) (u : ℕ → Bool) (m : List ℕ) (g : List ATy) → N k → N n → All-of S g →
      Q k (CodeTy n (header u m g))
  pub of_call : (k : ℕ) (us : ATys) → N k → AAll A k us → Q k (CodeTy 0 (ty_args us 1))

pub some_same : (t u : ATy) → Some t ≡ Some u → t ≡ u
some_same t u e = cc
