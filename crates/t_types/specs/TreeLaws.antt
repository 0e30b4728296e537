-- What the general laws of shift, put and below ask of types: one case for each constructor.
use Rattle.std.proofs.Common.{◌≡◌, ℕ, ◌+◌, ◌↔◌, suc, refl, ap, ap₂, List, [], ◌∷◌}
use Rattle.idx_core.specs.Over.{deep, At, IsOver, IsPart, IsEach, IsEachPart, shifted}
use Rattle.idx_core.specs.Laws.{under, under2, under3}
use Rattle.idx_core.specs.Laws as laws
use Rattle.t_types.specs.Tree.{Ty, IntTy, VarTy, CodeTy, ExistsTy, TupleTy, TFile, NoRegs, MoreRegs, TFields, NoFields}
use Rattle.t_types.specs.Tree.{MoreFields, over, over_file, over_fields, over_types, each, each_file, each_fields}
use Rattle.t_types.specs.Tree.{each_types, shift, shift_file, shift_fields, Below, BelowFile, BelowFields, BelowTypes}

-- a fact on each depth, below n more binders
pub keeps_more : (f : At Ty) (a n : ℕ) → ((e i : ℕ) → f (deep a e) i ≡ VarTy i) → (e i : ℕ) →
    f (deep (a + n) e) i ≡ VarTy i
keeps_more f a n h = under (λ d. (i : ℕ) → f d i ≡ VarTy i) n a h

pub after_more : (f g h : At Ty) (a b c n : ℕ) → ((e i : ℕ) → over g (deep b e) (f (deep a e) i) ≡ h (deep c e) i) →
    (e i : ℕ) → over g (deep (b + n) e) (f (deep (a + n) e) i) ≡ h (deep (c + n) e) i
after_more f g h a b c n k = under3 (λ x y z. (i : ℕ) → over g y (f x i) ≡ h z i) n a b c k

pub agree_more : (V : ℕ → ℕ → Type 0) (f g : At Ty) (a b m n : ℕ) →
    ((e i : ℕ) → V (deep m e) i → f (deep a e) i ≡ g (deep b e) i) → (e i : ℕ) → V (deep (m + n) e) i →
    f (deep (a + n) e) i ≡ g (deep (b + n) e) i
agree_more V f g a b m n k = under3 (λ x y z. (i : ℕ) → V z i → f x i ≡ g y i) n a b m k

pub made_more : (V W : ℕ → ℕ → Type 0) (D : ℕ → Type 0) (f : At Ty) (a n m p : ℕ) →
    ((e i : ℕ) → V (deep n e) i → each W D (deep m e) (f (deep a e) i)) → (e i : ℕ) → V (deep (n + p) e) i →
    each W D (deep (m + p) e) (f (deep (a + p) e) i)
made_more V W D f a n m p k = under3 (λ x y z. (i : ℕ) → V y i → each W D z (f x i)) p a n m k

pub made_deeper : (B D : ℕ → Type 0) (n m p : ℕ) → ((e : ℕ) → B (deep n e) → D (deep m e)) → (e : ℕ) →
    B (deep (n + p) e) → D (deep (m + p) e)
made_deeper B D n m p l = under2 (λ x y. B x → D y) p n m l

-- a walk that changes no variable
mutual
  keeps : (f : At Ty) (a : ℕ) → ((e i : ℕ) → f (deep a e) i ≡ VarTy i) → (t : Ty) → over f a t ≡ t
  keeps f a h IntTy = refl
  keeps f a h (VarTy i) = h 0 i
  keeps f a h (CodeTy n x) = ap (CodeTy n) (keeps_file f (a + n) (keeps_more f a n h) x)
  keeps f a h (ExistsTy t) = ap ExistsTy (keeps f (a + 1) (λ e. h (suc e)) t)
  keeps f a h (TupleTy x) = ap TupleTy (keeps_fields f a h x)

  keeps_file : (f : At Ty) (a : ℕ) → ((e i : ℕ) → f (deep a e) i ≡ VarTy i) → (x : TFile) → over_file f a x ≡ x
  keeps_file f a h NoRegs = refl
  keeps_file f a h (MoreRegs r t x) = ap₂ (MoreRegs r) (keeps f a h t) (keeps_file f a h x)

  keeps_fields : (f : At Ty) (a : ℕ) → ((e i : ℕ) → f (deep a e) i ≡ VarTy i) → (x : TFields) → over_fields f a x ≡ x
  keeps_fields f a h NoFields = refl
  keeps_fields f a h (MoreFields t b x) = ap₂ (λ u y. MoreFields u b y) (keeps f a h t) (keeps_fields f a h x)

-- one walk after another
mutual
  after : (f g h : At Ty) (a b c : ℕ) → ((e i : ℕ) → over g (deep b e) (f (deep a e) i) ≡ h (deep c e) i) → (t : Ty) →
      over g b (over f a t) ≡ over h c t
  after f g h a b c k IntTy = refl
  after f g h a b c k (VarTy i) = k 0 i
  after f g h a b c k (CodeTy n x) =
      ap (CodeTy n) (after_file f g h (a + n) (b + n) (c + n) (after_more f g h a b c n k) x)
  after f g h a b c k (ExistsTy t) = ap ExistsTy (after f g h (a + 1) (b + 1) (c + 1) (λ e. k (suc e)) t)
  after f g h a b c k (TupleTy x) = ap TupleTy (after_fields f g h a b c k x)

  after_file : (f g h : At Ty) (a b c : ℕ) → ((e i : ℕ) → over g (deep b e) (f (deep a e) i) ≡ h (deep c e) i) →
      (x : TFile) → over_file g b (over_file f a x) ≡ over_file h c x
  after_file f g h a b c k NoRegs = refl
  after_file f g h a b c k (MoreRegs r t x) = ap₂ (MoreRegs r) (after f g h a b c k t) (after_file f g h a b c k x)

  after_fields : (f g h : At Ty) (a b c : ℕ) → ((e i : ℕ) → over g (deep b e) (f (deep a e) i) ≡ h (deep c e) i) →
      (x : TFields) → over_fields g b (over_fields f a x) ≡ over_fields h c x
  after_fields f g h a b c k NoFields = refl
  after_fields f g h a b c k (MoreFields t flag x) =
      ap₂ (λ u y. MoreFields u flag y) (after f g h a b c k t) (after_fields f g h a b c k x)

-- two walks that agree at the variables that are there
mutual
  agree : (V : ℕ → ℕ → Type 0) (B : ℕ → Type 0) (f g : At Ty) (a b m : ℕ) →
      ((e i : ℕ) → V (deep m e) i → f (deep a e) i ≡ g (deep b e) i) → (t : Ty) → each V B m t → over f a t ≡ over g b t
  agree V B f g a b m k IntTy u = refl
  agree V B f g a b m k (VarTy i) u = k 0 i u
  agree V B f g a b m k (CodeTy n x) u =
      ap (CodeTy n) (agree_file V B f g (a + n) (b + n) (m + n) (agree_more V f g a b m n k) x u.1)
  agree V B f g a b m k (ExistsTy t) u = ap ExistsTy (agree V B f g (a + 1) (b + 1) (m + 1) (λ e. k (suc e)) t u.1)
  agree V B f g a b m k (TupleTy x) u = ap TupleTy (agree_fields V B f g a b m k x u)

  agree_file : (V : ℕ → ℕ → Type 0) (B : ℕ → Type 0) (f g : At Ty) (a b m : ℕ) →
      ((e i : ℕ) → V (deep m e) i → f (deep a e) i ≡ g (deep b e) i) → (x : TFile) → each_file V B m x →
      over_file f a x ≡ over_file g b x
  agree_file V B f g a b m k NoRegs u = refl
  agree_file V B f g a b m k (MoreRegs r t x) u =
      ap₂ (MoreRegs r) (agree V B f g a b m k t u.0) (agree_file V B f g a b m k x u.1)

  agree_fields : (V : ℕ → ℕ → Type 0) (B : ℕ → Type 0) (f g : At Ty) (a b m : ℕ) →
      ((e i : ℕ) → V (deep m e) i → f (deep a e) i ≡ g (deep b e) i) → (x : TFields) → each_fields V B m x →
      over_fields f a x ≡ over_fields g b x
  agree_fields V B f g a b m k NoFields u = refl
  agree_fields V B f g a b m k (MoreFields t flag x) u =
      ap₂ (λ w y. MoreFields w flag y) (agree V B f g a b m k t u.0) (agree_fields V B f g a b m k x u.1)

-- what a walk makes has what its parts have
mutual
  made : (V W : ℕ → ℕ → Type 0) (B D : ℕ → Type 0) (f : At Ty) (a n m : ℕ) →
      ((e i : ℕ) → V (deep n e) i → each W D (deep m e) (f (deep a e) i)) → ((e : ℕ) → B (deep n e) → D (deep m e)) →
      (t : Ty) → each V B n t → each W D m (over f a t)
  made V W B D f a n m k l IntTy u = tt
  made V W B D f a n m k l (VarTy i) u = k 0 i u
  made V W B D f a n m k l (CodeTy p x) u = (
    made_deeper B D n m p l 0 u.0,
    made_file V W B D f (a + p) (n + p) (m + p) (made_more V W D f a n m p k) (made_deeper B D n m p l) x u.1,
  )
  made V W B D f a n m k l (ExistsTy t) u =
      (l 1 u.0, made V W B D f (a + 1) (n + 1) (m + 1) (λ e. k (suc e)) (λ e. l (suc e)) t u.1)
  made V W B D f a n m k l (TupleTy x) u = made_fields V W B D f a n m k l x u

  made_file : (V W : ℕ → ℕ → Type 0) (B D : ℕ → Type 0) (f : At Ty) (a n m : ℕ) →
      ((e i : ℕ) → V (deep n e) i → each W D (deep m e) (f (deep a e) i)) → ((e : ℕ) → B (deep n e) → D (deep m e)) →
      (x : TFile) → each_file V B n x → each_file W D m (over_file f a x)
  made_file V W B D f a n m k l NoRegs u = tt
  made_file V W B D f a n m k l (MoreRegs r t x) u =
      (made V W B D f a n m k l t u.0, made_file V W B D f a n m k l x u.1)

  made_fields : (V W : ℕ → ℕ → Type 0) (B D : ℕ → Type 0) (f : At Ty) (a n m : ℕ) →
      ((e i : ℕ) → V (deep n e) i → each W D (deep m e) (f (deep a e) i)) → ((e : ℕ) → B (deep n e) → D (deep m e)) →
      (x : TFields) → each_fields V B n x → each_fields W D m (over_fields f a x)
  made_fields V W B D f a n m k l NoFields u = tt
  made_fields V W B D f a n m k l (MoreFields t flag x) u =
      (made V W B D f a n m k l t u.0, made_fields V W B D f a n m k l x u.1)

-- types, which stand for type variables
pub types_part : IsPart Ty VarTy over
types_part = record { at_var = λ f d i. refl; is_over = record { keeps = keeps; after = after } }

pub types_each : IsEachPart Ty VarTy over each
types_each = record { each_var = λ V B d i h. h; has = record { agree = agree; made = made } }

pub types_over : IsOver Ty Ty VarTy over over
types_over = types_part.is_over

-- files and fields
pub file_over : IsOver Ty TFile VarTy over over_file
file_over = record { keeps = keeps_file; after = after_file }

pub file_each : IsEach Ty TFile each over_file each_file
file_each = record { agree = agree_file; made = made_file }

pub fields_over : IsOver Ty TFields VarTy over over_fields
fields_over = record { keeps = keeps_fields; after = after_fields }

-- lists of types
keeps_types : (f : At Ty) (a : ℕ) → ((e i : ℕ) → f (deep a e) i ≡ VarTy i) → (ts : List Ty) → over_types f a ts ≡ ts
keeps_types f a h [] = refl
keeps_types f a h (t ∷ ts) = ap₂ (λ (u : Ty) (us : List Ty). u ∷ us) (keeps f a h t) (keeps_types f a h ts)

after_types : (f g h : At Ty) (a b c : ℕ) → ((e i : ℕ) → over g (deep b e) (f (deep a e) i) ≡ h (deep c e) i) →
    (ts : List Ty) → over_types g b (over_types f a ts) ≡ over_types h c ts
after_types f g h a b c k [] = refl
after_types f g h a b c k (t ∷ ts) =
    ap₂ (λ (u : Ty) (us : List Ty). u ∷ us) (after f g h a b c k t) (after_types f g h a b c k ts)

agree_types : (V : ℕ → ℕ → Type 0) (B : ℕ → Type 0) (f g : At Ty) (a b m : ℕ) →
    ((e i : ℕ) → V (deep m e) i → f (deep a e) i ≡ g (deep b e) i) → (ts : List Ty) → each_types V B m ts →
    over_types f a ts ≡ over_types g b ts
agree_types V B f g a b m k [] u = refl
agree_types V B f g a b m k (t ∷ ts) u =
    ap₂ (λ (x : Ty) (xs : List Ty). x ∷ xs) (agree V B f g a b m k t u.0) (agree_types V B f g a b m k ts u.1)

made_types : (V W : ℕ → ℕ → Type 0) (B D : ℕ → Type 0) (f : At Ty) (a n m : ℕ) →
    ((e i : ℕ) → V (deep n e) i → each W D (deep m e) (f (deep a e) i)) → ((e : ℕ) → B (deep n e) → D (deep m e)) →
    (ts : List Ty) → each_types V B n ts → each_types W D m (over_types f a ts)
made_types V W B D f a n m k l [] u = tt
made_types V W B D f a n m k l (t ∷ ts) u = (made V W B D f a n m k l t u.0, made_types V W B D f a n m k l ts u.1)

pub list_over : IsOver Ty (List Ty) VarTy over over_types
list_over = record { keeps = keeps_types; after = after_types }

pub list_each : IsEach Ty (List Ty) each over_types each_types
list_each = record { agree = agree_types; made = made_types }

-- what a shift leaves as it is has no free index from its cut on
mutual
  still : (n : ℕ) (t : Ty) → shift 1 n t ≡ t → Below n t
  still n IntTy e = tt
  still n (VarTy i) e = laws.still_var VarTy (λ j k same. cc) n i e
  still n (CodeTy p x) e = (tt, still_file (n + p) x (cc))
  still n (ExistsTy t) e = (tt, still (n + 1) t (cc))
  still n (TupleTy x) e = still_fields n x (cc)

  still_file : (n : ℕ) (x : TFile) → shift_file 1 n x ≡ x → BelowFile n x
  still_file n NoRegs e = tt
  still_file n (MoreRegs r t x) e = (still n t (cc), still_file n x (cc))

  still_fields : (n : ℕ) (x : TFields) → shift_fields 1 n x ≡ x → BelowFields n x
  still_fields n NoFields e = tt
  still_fields n (MoreFields t flag x) e = (still n t (cc), still_fields n x (cc))

still_types : (n : ℕ) (ts : List Ty) → over_types (shifted VarTy 1) n ts ≡ ts → BelowTypes n ts
still_types n [] e = tt
still_types n (t ∷ ts) e = (still n t (cc), still_types n ts (cc))

pub type_is_below : (n : ℕ) (t : Ty) → Below n t ↔ (shift 1 n t ≡ t)
type_is_below n t = laws.below_is types_part types_each types_over types_each.has still n t

pub file_is_below : (n : ℕ) (x : TFile) → BelowFile n x ↔ (shift_file 1 n x ≡ x)
file_is_below n x = laws.below_is types_part types_each file_over file_each still_file n x

pub list_is_below : (n : ℕ) (ts : List Ty) → BelowTypes n ts ↔ (over_types (shifted VarTy 1) n ts ≡ ts)
list_is_below n ts = laws.below_is types_part types_each list_over list_each still_types n ts
