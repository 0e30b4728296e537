-- Types that are well formed are bounded, and bounded types stay so: shifted, put, and taken apart. So each sum is a
-- u64.
use Rattle.std.proofs.Common.{◌≡◌, ℕ, zero, suc, ◌+◌, ◌*◌, ◌-◌, ◌<◌, ◌≤◌, ◌⊎◌, inl, inr, Bool, List, [], ◌∷◌, length}
use Rattle.std.proofs.Common.{Some, refl, sym, ap, ◌∙◌, arith, subst}
use Rattle.std.proofs.lemmas.Bool.{cases_lt, cases_order}
use Rattle.idx_core.specs.Over.{deep, shifted, putted, IsWord, ShiftFitsAt, PutFitsAt}
use Rattle.idx_core.specs.Laws.{deep_is, shifted_lt, shifted_ge, putted_lt, putted_eq, putted_gt, shift_add_law}
use Rattle.t_types.specs.Tree.{Ty, IntTy, VarTy, CodeTy, ExistsTy, TupleTy, TFile, NoRegs, MoreRegs, TFields, NoFields}
use Rattle.t_types.specs.Tree.{MoreFields, over, each, each_file, each_fields, shift, put_file, ShiftFits, PutFits}
use Rattle.t_types.specs.TreeLaws.{types_part, types_each, types_over, file_each, file_over}
use Rattle.t_types.specs.WellFormed.{max_names, WellFormed, WellFormedFile, WellFormedFields, WellFormedTypes}
use Rattle.t_types.specs.WellFormed.{RegsAbove}
use Rattle.t_types.specs.Fields.{AField, field, filled, empty_fields}
use Rattle.t_terms.specs.Tree.{TData}
use Rattle.t_terms.specs.Whole.{WellFormedData}
use Rattle.t_terms.specs.Registers.{inst_file}
use Rattle.t_terms.specs.Labels.{data_fields, data_type}
use Rattle.t_types.specs.Bounds.{ShallowAt, ShallowBelow, Shallow, OwedAt, OwedBelow, OwedFile, Bounded}

-- what holds of each variable and depth, weakened, and counted from another depth
module _ (V W : ℕ → ℕ → Type 0) (B D : ℕ → Type 0) (n m : ℕ) (k : (e i : ℕ) → V (n + e) i → W (m + e) i)
    (l : (e : ℕ) → B (n + e) → D (m + e)) where
  at_deep : (e i : ℕ) → V (deep n e) i → W (deep m e) i
  at_deep e i h = subst (λ d. W d i) (sym (deep_is m e)) (k e i (subst (λ d. V d i) (deep_is n e) h))

  below_deep : (e : ℕ) → B (deep n e) → D (deep m e)
  below_deep e h = subst D (sym (deep_is m e)) (l e (subst B (deep_is n e) h))

  pub weaker : (t : Ty) → each V B n t → each W D m t
  weaker t h =
      subst (each W D m) (types_over.keeps (λ d i. VarTy i) 0 (λ e i. refl) t)
      (types_each.has.made V W B D (λ d i. VarTy i) 0 n m at_deep below_deep t h)

  pub weaker_file : (file : TFile) → each_file V B n file → each_file W D m file
  weaker_file file h =
      subst (each_file W D m) (file_over.keeps (λ d i. VarTy i) 0 (λ e i. refl) file)
      (file_each.made V W B D (λ d i. VarTy i) 0 n m at_deep below_deep file h)

-- what is well formed under n names is shallow
mutual
  shallow_from : (n d m : ℕ) (t : Ty) → m ≡ d + n → d ≤ max_names → WellFormed m t → each (ShallowAt n) ShallowBelow d t
  shallow_from n d m IntTy e le h = tt
  shallow_from n d m (VarTy i) e le h = (omega arith, le)
  shallow_from n d m (CodeTy owes file) e le h =
      let few = h.0 in
      let deeper : d + owes ≤ max_names = omega arith in
      (deeper, shallow_regs n (d + owes) 0 (m + owes) file (omega arith) deeper h.1)
  shallow_from n d m (ExistsTy t) e le h =
      let few = h.0 in
      let deeper : d + 1 ≤ max_names = omega arith in
      (deeper, shallow_from n (d + 1) (m + 1) t (omega arith) deeper h.1)
  shallow_from n d m (TupleTy fields) e le h = shallow_fields n d m fields e le h

  shallow_regs : (n d low m : ℕ) (file : TFile) → m ≡ d + n → d ≤ max_names → RegsAbove low m file →
      each_file (ShallowAt n) ShallowBelow d file
  shallow_regs n d low m NoRegs e le h = tt
  shallow_regs n d low m (MoreRegs r t file) e le h =
      (shallow_from n d m t e le h.2, shallow_regs n d r m file e le h.3)

  shallow_fields : (n d m : ℕ) (fields : TFields) → m ≡ d + n → d ≤ max_names → WellFormedFields m fields →
      each_fields (ShallowAt n) ShallowBelow d fields
  shallow_fields n d m NoFields e le h = tt
  shallow_fields n d m (MoreFields t flag fields) e le h =
      (shallow_from n d m t e le h.0, shallow_fields n d m fields e le h.1)

pub shallow : (n : ℕ) (t : Ty) → WellFormed n t → Shallow n t
shallow n t h = shallow_from n 0 n t (omega arith) (omega arith) h

-- what is shallow is bounded
owed_file : (n m k : ℕ) (file : TFile) → n ≤ m → each_file (ShallowAt n) ShallowBelow (0 + k) file → OwedFile m k file
owed_file n m k file le h =
    weaker_file (ShallowAt n) (OwedAt m k) ShallowBelow OwedBelow (0 + k) (0 + k)
    (λ e i x. let a = x.0 in (omega arith, omega (arith, x.1), λ lt o. x.1)) (λ e x. omega arith) file h

pub bounded : (n : ℕ) (t : Ty) → Shallow n t → Bounded n t
bounded n (CodeTy k file) h = let few = h.0 in (omega arith, owed_file n n k file (omega arith) h.1)
bounded n IntTy h = h
bounded n (VarTy i) h = h
bounded n (ExistsTy t) h = h
bounded n (TupleTy fs) h = h

-- the type of a label
pub label_bounded : (n owes : ℕ) (file : TFile) → owes ≤ max_names → WellFormedFile owes file →
    Bounded n (CodeTy owes file)
label_bounded n owes file few h =
    (few, owed_file 0 n owes file (omega arith) (shallow_regs 0 (0 + owes) 0 owes file (omega arith) (omega arith) h))

-- a fact on a variable that a shift, or a put, moves
at_shifted : (k d i : ℕ) (P : Ty → Type 0) → (i < d → P (VarTy i)) → (d ≤ i → P (VarTy (i + k))) →
    P (shifted VarTy k d i)
at_shifted k d i P x y = pick (cases_lt i d)
  where
    pick : (i < d) ⊎ (d ≤ i) → P (shifted VarTy k d i)
    pick (inl h) = subst P (sym (shifted_lt VarTy k d i h)) (x h)
    pick (inr h) = subst P (sym (shifted_ge VarTy k d i h)) (y h)

at_putted : (c d i : ℕ) (s : Ty) (P : Ty → Type 0) → (i < d → P (VarTy i)) → (i ≡ d → P (shift (d - c) 0 s)) →
    (d < i → P (VarTy (i - 1))) → P (putted VarTy over c s d i)
at_putted c d i s P x y z = pick (cases_order i d)
  where
    pick : (i ≡ d) ⊎ ((i < d) ⊎ (d < i)) → P (putted VarTy over c s d i)
    pick (inl h) = subst P (sym (putted_eq VarTy over c s d i h)) (y h)
    pick (inr (inl h)) = subst P (sym (putted_lt VarTy over c s d i h)) (x h)
    pick (inr (inr h)) = subst P (sym (putted_gt VarTy over c s d i h)) (z h)

-- sums of a shift
pub shallow_shift_fits : (n k : ℕ) (t : Ty) → n + k ≤ 2 * max_names → Shallow n t → ShiftFits k 0 t
shallow_shift_fits n k t few h =
    weaker (ShallowAt n) (ShiftFitsAt k) ShallowBelow IsWord 0 0
    (λ e i x. let a = x.0 in let b = x.1 in λ le. omega arith) (λ e x. omega arith) t h

pub shift_fits : (n k : ℕ) (t : Ty) → n + k ≤ max_names → Bounded n t → ShiftFits k 0 t
shift_fits n k (CodeTy owes file) few h =
    let less = h.0 in (
      omega arith,
      weaker_file (OwedAt n owes) (ShiftFitsAt k) OwedBelow IsWord (0 + owes) (0 + owes)
          (λ e i x. let a = x.0 in let b = x.1 in λ le. omega arith) (λ e x. omega arith) file h.1,
    )
shift_fits n k IntTy few h = tt
shift_fits n k (VarTy i) few h = shallow_shift_fits n k (VarTy i) (omega arith) h
shift_fits n k (ExistsTy t) few h = shallow_shift_fits n k (ExistsTy t) (omega arith) h
shift_fits n k (TupleTy fs) few h = shallow_shift_fits n k (TupleTy fs) (omega arith) h

-- what a shift leads to
pub shallow_shift : (n k : ℕ) (t : Ty) → Shallow n t → Shallow (n + k) (shift k 0 t)
shallow_shift n k t h =
    types_each.has.made (ShallowAt n) (ShallowAt (n + k)) ShallowBelow ShallowBelow (shifted VarTy k) 0 0 0
    (λ e i x. let a = x.0 in
    at_shifted k (deep 0 e) i (λ u. each (ShallowAt (n + k)) ShallowBelow (deep 0 e) u) (λ lt. (omega arith, x.1))
    (λ le. (omega arith, x.1)))
    (λ e x. x) t h

pub bounded_shift : (n k : ℕ) (t : Ty) → Bounded n t → Bounded (n + k) (shift k 0 t)
bounded_shift n k (CodeTy owes file) h = (
  h.0,
  file_each.made (OwedAt n owes) (OwedAt (n + k) owes) OwedBelow OwedBelow (shifted VarTy k) (0 + owes) (0 + owes)
      (0 + owes)
      (λ e i x. let a = x.0 in let b = x.2 in
      at_shifted k (deep (0 + owes) e) i (λ u. each (OwedAt (n + k) owes) OwedBelow (deep (0 + owes) e) u)
      (λ lt. (omega arith, x.1, x.2)) (λ le. (omega arith, x.1, λ lt. absurd (omega arith))))
      (λ e x. x) file h.1,
)
bounded_shift n k IntTy h = tt
bounded_shift n k (VarTy i) h = bounded (n + k) (shift k 0 (VarTy i)) (shallow_shift n k (VarTy i) h)
bounded_shift n k (ExistsTy t) h = bounded (n + k) (shift k 0 (ExistsTy t)) (shallow_shift n k (ExistsTy t) h)
bounded_shift n k (TupleTy fs) h = bounded (n + k) (shift k 0 (TupleTy fs)) (shallow_shift n k (TupleTy fs) h)

-- a type put for the first of the types that code owes
module _ (n k : ℕ) (u : Ty) (file : TFile) (some : 1 ≤ k) (few : k ≤ max_names) (names : n ≤ max_names)
    (hu : Shallow n u) (hf : OwedFile n k file) where
  placed : (j p : ℕ) → j ≤ p → p ≤ max_names → each (OwedAt n j) OwedBelow p (shift p 0 u)
  placed j p le less =
      types_each.has.made (ShallowAt n) (OwedAt n j) ShallowBelow OwedBelow (shifted VarTy p) 0 0 p
      (λ e i x. subst (λ d. each (OwedAt n j) OwedBelow d (shifted VarTy p (deep 0 e) i)) (sym (deep_is p e))
      (let a = subst (λ d. ShallowAt n d i) (deep_is 0 e) x in let b = a.0 in let c = a.1 in
      subst (λ d. each (OwedAt n j) OwedBelow (p + e) (shifted VarTy p d i)) (sym (deep_is 0 e))
      (at_shifted p (0 + e) i (λ t. each (OwedAt n j) OwedBelow (p + e) t)
      (λ lt. (omega arith, omega arith, λ y z. absurd (omega arith)))
      (λ ge. (omega arith, omega arith, λ y z. absurd (omega arith))))))
      (λ e x. let y : 0 + e ≤ max_names = subst ShallowBelow (deep_is 0 e) x in
      subst OwedBelow (sym (deep_is p e)) (omega arith)) u hu

  moves : (e i : ℕ) → OwedAt n k (0 + k + e) i →
      each (OwedAt n (k - 1)) OwedBelow (0 + (k - 1) + e) (putted VarTy over (k - 1) (shift (k - 1) 0 u) (k - 1 + e) i)
  moves e i x =
      let a = x.0 in let b = x.1 in let own = x.2 in
      at_putted (k - 1) (k - 1 + e) i (shift (k - 1) 0 u) (λ t. each (OwedAt n (k - 1)) OwedBelow (0 + (k - 1) + e) t)
      (λ lt. (omega arith, omega arith, λ y z. let less = own (omega arith) (omega arith) in omega arith))
      (λ is.
      let less = own (omega arith) (omega arith) in
      let by : k - 1 + (k - 1 + e - (k - 1)) ≡ 0 + (k - 1) + e = omega arith in
      subst (λ t. each (OwedAt n (k - 1)) OwedBelow (0 + (k - 1) + e) t)
      (sym (shift_add_law types_part types_over (k - 1) (k - 1 + e - (k - 1)) 0 u ∙ ap (λ m. shift m 0 u) by))
      (placed (k - 1) (0 + (k - 1) + e) (omega arith) (omega arith)))
      (λ gt. (omega arith, omega arith, λ y z. absurd (omega arith)))

  pub inst_put : OwedFile n (k - 1) (put_file (k - 1) (shift (k - 1) 0 u) file)
  inst_put =
      file_each.made (OwedAt n k) (OwedAt n (k - 1)) OwedBelow OwedBelow
      (putted VarTy over (k - 1) (shift (k - 1) 0 u)) (k - 1) (0 + k) (0 + (k - 1))
      (λ e i x.
      subst (λ d. each (OwedAt n (k - 1)) OwedBelow d
      (putted VarTy over (k - 1) (shift (k - 1) 0 u) (deep (k - 1) e) i)) (sym (deep_is (0 + (k - 1)) e))
      (subst (λ d. each (OwedAt n (k - 1)) OwedBelow (0 + (k - 1) + e)
      (putted VarTy over (k - 1) (shift (k - 1) 0 u) d i)) (sym (deep_is (k - 1) e))
      (moves e i (subst (λ d. OwedAt n k d i) (deep_is (0 + k) e) x))))
      (λ e x. let y : 0 + k + e ≤ 2 * max_names = subst OwedBelow (deep_is (0 + k) e) x in
      subst OwedBelow (sym (deep_is (0 + (k - 1)) e)) (omega arith)) file hf

  -- and its sums
  put_at : (e i : ℕ) → OwedAt n k (0 + k + e) i → PutFitsAt each (k - 1) (shift (k - 1) 0 u) (k - 1 + e) i
  put_at e i x is =
      let own = x.2 in
      let less = own (omega (arith, is, some)) (omega (arith, is, some)) in
      let far : k - 1 + e - (k - 1) ≡ e = omega arith in
      subst (λ m. ShiftFits m 0 (shift (k - 1) 0 u)) (sym far)
      (shallow_shift_fits (n + (k - 1)) e (shift (k - 1) 0 u) (omega (arith, less, names, some))
      (shallow_shift n (k - 1) u hu))

  pub inst_fits : each_file (PutFitsAt each (k - 1) (shift (k - 1) 0 u)) IsWord (k - 1) file
  inst_fits =
      weaker_file (OwedAt n k) (PutFitsAt each (k - 1) (shift (k - 1) 0 u)) OwedBelow IsWord (0 + k) (k - 1) put_at
      (λ e x. omega (arith, x)) file hf

-- types put for the first ones in order
pub inst_owed : (n k : ℕ) (ts : List Ty) (file : TFile) → length ts ≤ k → k ≤ max_names → n ≤ max_names →
    WellFormedTypes n ts → OwedFile n k file → OwedFile n (k - length ts) (inst_file ts k file)
inst_owed n k [] file le few names h hf = let same : k ≡ k - 0 = omega arith in subst (λ m. OwedFile n m file) same hf
inst_owed n k (t ∷ ts) file le few names h hf =
    let here = inst_put n k t file (omega (arith, le)) few names (shallow n t h.0) hf in
    let rest = inst_owed n (k - 1) ts (put_file (k - 1) (shift (k - 1) 0 t) file) (omega (arith, le))
    (omega (arith, few)) names h.1 here in
    let same : k - 1 - length ts ≡ k - length (t ∷ ts) = omega arith in
    subst (λ m. OwedFile n m (inst_file ts (k - 1) (put_file (k - 1) (shift (k - 1) 0 t) file))) same rest

-- a type put for the one that a package hides
pub pack_put_fits : (n : ℕ) (s t : Ty) → n ≤ max_names → Shallow n s → Shallow n (ExistsTy t) → PutFits 0 s 0 t
pack_put_fits n s t few hs ht =
    weaker (ShallowAt n) (PutFitsAt each 0 s) ShallowBelow IsWord (0 + 1) 0
    (λ e i x. λ is. let a = x.1 in shallow_shift_fits n (0 + e - 0) s (omega arith) hs) (λ e x. omega arith) t ht.1

-- parts of a type
pub unpacked : (n : ℕ) (t : Ty) → Shallow n (ExistsTy t) → Bounded (n + 1) t
unpacked n t h =
    bounded (n + 1) t
    (weaker (ShallowAt n) (ShallowAt (n + 1)) ShallowBelow ShallowBelow (0 + 1) 0
    (λ e i x. let a = x.0 in let b = x.1 in (omega arith, omega arith)) (λ e x. omega arith) t h.1)

pub field_shallow : (n : ℕ) (fs : TFields) (i : ℕ) (t : Ty) (flag : Bool) → Shallow n (TupleTy fs) →
    field fs i ≡ Some (AField t flag) → Shallow n t
field_shallow n NoFields i t flag h e = cc
field_shallow n (MoreFields u x fs) zero t flag h e = let e1 : u ≡ t = cc in subst (Shallow n) e1 h.0
field_shallow n (MoreFields u x fs) (suc i) t flag h e = field_shallow n fs i t flag h.1 e

pub filled_shallow : (n : ℕ) (fs : TFields) (i : ℕ) → Shallow n (TupleTy fs) → Shallow n (TupleTy (filled fs i))
filled_shallow n NoFields i h = h
filled_shallow n (MoreFields u x fs) zero h = h
filled_shallow n (MoreFields u x fs) (suc i) h = (h.0, filled_shallow n fs i h.1)

pub empty_shallow : (n : ℕ) (ts : List Ty) → WellFormedTypes n ts → Shallow n (TupleTy (empty_fields ts))
empty_shallow n [] h = tt
empty_shallow n (t ∷ ts) h = (shallow n t h.0, empty_shallow n ts h.1)

-- the types of a data tuple, which are closed
closed_shallow : (n : ℕ) (t : Ty) → WellFormed 0 t → Shallow n t
closed_shallow n t h =
    weaker (ShallowAt 0) (ShallowAt n) ShallowBelow ShallowBelow 0 0 (λ e i k. let lt = k.0 in (omega arith, k.1))
    (λ e k. k) t (shallow 0 t h)

data_shallow : (n p q : ℕ) (x : TData) → WellFormedData p q x → each_fields (ShallowAt n) ShallowBelow 0 (data_fields x)
data_shallow n p q [] h = tt
data_shallow n p q (x ∷ xs) h = (closed_shallow n x.ty h.0.2, data_shallow n p q xs h.1)

pub data_bounded : (n : ℕ) (x : TData) (p q : ℕ) → WellFormedData p q x → Bounded n (data_type x)
data_bounded n x p q h = data_shallow n p q x h
