-- Types are a set, and source typing is a proposition: a type's invariant may keep it.
use Rattle.std.proofs.Common.{◌≡◌, ℕ, ◌+◌, refl, sym, ap, ◌∙◌, Option, Some}
use Rattle.std.proofs.Math.Decide.{ℕ_discrete}
use Rattle.std.proofs.Props.{props}
use mathlib.Core.HLevel.{hedberg, is_prop→PathP}
use Rattle.idx_core.specs.Over.{BelowAt, AnyDepth}
use Rattle.f_terms.specs.Ty.{Ty, TInt, TVar, TArrow, TAll, TTuple, TSome, TRef, Tys, NoTys, MoreTys, each, each_all}
use Rattle.f_terms.specs.Ty.{shift}
use Rattle.f_terms.specs.Ty.{put, Below}
use Rattle.f_terms.specs.Tm.{Term, MVar, MNum, MFix, MApp, MGen, MInst, MTuple, MProj, MArith, MIf0, MLet, MPack, MOpen}
use Rattle.f_terms.specs.Tm.{MRef, MDeref, MAssign, Terms, NoTerms}
use Rattle.f_terms.specs.Tm.{MoreTerms}
use Rattle.f_terms.specs.Limits.{Within}
use Rattle.f_terms.specs.Typing.{ty_at, field_ty, raised, in_fix, in_open, HasType, HaveTypes, IsTyped}
use Rattle.f_terms.specs.Keeps.{TypeHas, AllKeep}
use Rattle.f_terms.specs.Accepted.{KeepsLimits, IsAccepted}
use Rattle.f_terms.specs.OneType.{one_type}

-- equality of types is decided
var_is : {i j : ℕ} → TVar i ≡ TVar j → i ≡ j
var_is e = cc

arrow_is : {a b c d : Ty} → TArrow a b ≡ TArrow c d → (a ≡ c) × (b ≡ d)
arrow_is e = (cc, cc)

all_is : {a b : Ty} → TAll a ≡ TAll b → a ≡ b
all_is e = cc

tuple_is : {a b : Tys} → TTuple a ≡ TTuple b → a ≡ b
tuple_is e = cc

more_is : {a b : Ty} {s t : Tys} → MoreTys a s ≡ MoreTys b t → (a ≡ b) × (s ≡ t)
more_is e = (cc, cc)

if_var : {i j : ℕ} → Dec (i ≡ j) → Dec (TVar i ≡ TVar j)
if_var (yes e) = yes (ap TVar e)
if_var (no f) = no (λ e. f (var_is e))

if_arrow : {a b c d : Ty} → Dec (a ≡ c) → Dec (b ≡ d) → Dec (TArrow a b ≡ TArrow c d)
if_arrow (yes e) (yes f) = yes (λ i. TArrow (e i) (f i))
if_arrow (yes e) (no f) = no (λ h. f (arrow_is h).1)
if_arrow (no e) f = no (λ h. e (arrow_is h).0)

if_all : {a b : Ty} → Dec (a ≡ b) → Dec (TAll a ≡ TAll b)
if_all (yes e) = yes (ap TAll e)
if_all (no f) = no (λ e. f (all_is e))

some_is : {a b : Ty} → TSome a ≡ TSome b → a ≡ b
some_is e = cc

ref_is : {a b : Ty} → TRef a ≡ TRef b → a ≡ b
ref_is e = cc

if_some : {a b : Ty} → Dec (a ≡ b) → Dec (TSome a ≡ TSome b)
if_some (yes e) = yes (ap TSome e)
if_some (no f) = no (λ e. f (some_is e))

if_ref : {a b : Ty} → Dec (a ≡ b) → Dec (TRef a ≡ TRef b)
if_ref (yes e) = yes (ap TRef e)
if_ref (no f) = no (λ e. f (ref_is e))

if_tuple : {a b : Tys} → Dec (a ≡ b) → Dec (TTuple a ≡ TTuple b)
if_tuple (yes e) = yes (ap TTuple e)
if_tuple (no f) = no (λ e. f (tuple_is e))

if_more : {a b : Ty} {s t : Tys} → Dec (a ≡ b) → Dec (s ≡ t) → Dec (MoreTys a s ≡ MoreTys b t)
if_more (yes e) (yes f) = yes (λ i. MoreTys (e i) (f i))
if_more (yes e) (no f) = no (λ h. f (more_is h).1)
if_more (no e) f = no (λ h. e (more_is h).0)

mutual
  same : (a b : Ty) → Dec (a ≡ b)
  same TInt TInt = yes refl
  same (TVar i) (TVar j) = if_var (ℕ_discrete i j)
  same (TArrow a b) (TArrow c d) = if_arrow (same a c) (same b d)
  same (TAll a) (TAll b) = if_all (same a b)
  same (TTuple s) (TTuple t) = if_tuple (same_all s t)
  same (TSome a) (TSome b) = if_some (same a b)
  same (TRef a) (TRef b) = if_ref (same a b)
  same _ _ = no (λ e. cc)

  same_all : (s t : Tys) → Dec (s ≡ t)
  same_all NoTys NoTys = yes refl
  same_all (MoreTys a s) (MoreTys b t) = if_more (same a b) (same_all s t)
  same_all _ _ = no (λ e. cc)

pub type_set : IsSet Ty
type_set = hedberg same

pub types_set : IsSet Tys
types_set = hedberg same_all

maybe_set : IsSet (Option Ty)
maybe_set = hlevel (props, type_set)

-- tuples whose first part is determined by the others
unique₃ : {A : Type 0} {B C : A → Type 0} → ((a : A) → IsProp (B a)) → ((a : A) → IsProp (C a)) →
    ((a b : A) → B a → C a → B b → C b → a ≡ b) → IsProp ((a : A) × B a × C a)
unique₃ {B = B} {C = C} p q one u v =
    let e = one u.0 v.0 u.1 u.2 v.1 v.2 in
    λ i. (
      e i,
      is_prop→PathP (λ j. B (e j)) (λ j. p (e j)) u.1 v.1 i,
      is_prop→PathP (λ j. C (e j))
          (λ j. q (e j)) u.2 v.2 i,
    )

unique₄ : {A : Type 0} {B C D : A → Type 0} → ((a : A) → IsProp (B a)) → ((a : A) → IsProp (C a)) →
    ((a : A) → IsProp (D a)) → ((a b : A) → B a → C a → D a → B b → C b → D b → a ≡ b) →
    IsProp ((a : A) × B a × C a × D a)
unique₄ {B = B} {C = C} {D = D} p q r one u v =
    let e = one u.0 v.0 u.1 u.2 u.3 v.1 v.2 v.3 in
    λ i. (
      e i,
      is_prop→PathP (λ j. B (e j)) (λ j. p (e j)) u.1 v.1 i,
      is_prop→PathP (λ j. C (e j))
          (λ j. q (e j)) u.2 v.2 i,
      is_prop→PathP (λ j. D (e j)) (λ j. r (e j)) u.3 v.3 i,
    )

-- a field and the fields after it
fields_prop : {ts : Tys} {P : Ty → Type 0} {Q : Tys → Type 0} → ((t : Ty) → IsProp (P t)) →
    ((us : Tys) → IsProp (Q us)) → IsProp ((t : Ty) × (us : Tys) × (ts ≡ MoreTys t us) × P t × Q us)
fields_prop {ts = ts} {P = P} {Q = Q} p q u v =
    let e = more_is (sym u.2 ∙ v.2) in
    λ i. (
      e.0 i,
      e.1 i,
      is_prop→PathP (λ j. ts ≡ MoreTys (e.0 j) (e.1 j)) (λ j. types_set ts (MoreTys (e.0 j) (e.1 j))) u.2 v.2 i,
      is_prop→PathP (λ j. P (e.0 j)) (λ j. p (e.0 j)) u.3 v.3 i,
      is_prop→PathP (λ j. Q (e.1 j)) (λ j. q (e.1 j)) u.4 v.4 i,
    )

-- what a shape hides a type in
shape_prop : {s t : Ty} {P Q : Type 0} {R : Ty → Type 0} → IsProp P → IsProp Q → ((u : Ty) → IsProp (R u)) →
    IsProp ((u : Ty) × (s ≡ TSome u) × (t ≡ s) × P × Q × R u)
shape_prop {s = s} {t = t} {R = R} p q r u v =
    let e = some_is (sym u.1 ∙ v.1) in
    λ i. (
      e i,
      is_prop→PathP (λ j. s ≡ TSome (e j)) (λ j. type_set s (TSome (e j))) u.1 v.1 i,
      type_set t s u.2 v.2 i,
      p u.3 v.3 i,
      q u.4 v.4 i,
      is_prop→PathP (λ j. R (e j)) (λ j. r (e j)) u.5 v.5 i,
    )

module _ {V : ℕ → ℕ → Type 0} {B : ℕ → Type 0} (v : (d i : ℕ) → IsProp (V d i)) (b : (d : ℕ) → IsProp (B d)) where
  mutual
    each_prop : (d : ℕ) (t : Ty) → IsProp (each V B d t)
    each_prop d TInt = hlevel
    each_prop d (TVar i) = v d i
    each_prop d (TArrow s t) = hlevel (each_prop d s, each_prop d t)
    each_prop d (TAll t) = hlevel (b (d + 1), each_prop (d + 1) t)
    each_prop d (TTuple ts) = each_all_prop d ts
    each_prop d (TSome t) = hlevel (b (d + 1), each_prop (d + 1) t)
    each_prop d (TRef t) = each_prop d t

    each_all_prop : (d : ℕ) (ts : Tys) → IsProp (each_all V B d ts)
    each_all_prop d NoTys = hlevel
    each_all_prop d (MoreTys t ts) = hlevel (each_prop d t, each_all_prop d ts)

pub below_prop : (n : ℕ) (t : Ty) → IsProp (Below n t)
below_prop n t = each_prop {V = BelowAt} {B = AnyDepth} (λ d i. hlevel props) (λ d. hlevel props) n t

mutual
  pub has_type_prop : (e : Term) (n : ℕ) (g : Tys) (t : Ty) → IsProp (HasType e n g t)
  has_type_prop (MVar i) n g t = maybe_set (ty_at g i) (Some t)
  has_type_prop (MNum i) n g t = type_set t TInt
  has_type_prop (MFix arg res e) n g t =
      hlevel (type_set, below_prop n arg, below_prop n res, has_type_prop e n (in_fix arg res g) res)
  has_type_prop (MApp f x) n g t =
      unique₃ (λ s. has_type_prop f n g (TArrow s t)) (λ s. has_type_prop x n g s)
      (λ s u h k h' k'. (arrow_is (one_type f n g (TArrow s t) (TArrow u t) h h')).0)
  has_type_prop (MGen e) n g t =
      unique₃ (λ s. type_set t (TAll s)) (λ s. has_type_prop e (n + 1) (raised g) s)
      (λ s u h k h' k'. all_is (sym h ∙ h'))
  has_type_prop (MInst e s) n g t =
      unique₄ (λ b. type_set t (put 0 s b)) (λ b. below_prop n s) (λ b. has_type_prop e n g (TAll b))
      (λ a b h k l h' k' l'. all_is (one_type e n g (TAll a) (TAll b) l l'))
  has_type_prop (MTuple es) n g t =
      unique₃ (λ ts. type_set t (TTuple ts)) (λ ts. have_types_prop es n g ts)
      (λ ts us h k h' k'. tuple_is (sym h ∙ h'))
  has_type_prop (MProj i e) n g t =
      unique₃ (λ ts. maybe_set (field_ty ts i) (Some t)) (λ ts. has_type_prop e n g (TTuple ts))
      (λ ts us h k h' k'. tuple_is (one_type e n g (TTuple ts) (TTuple us) k k'))
  has_type_prop (MArith op a b) n g t = hlevel (type_set, has_type_prop a n g TInt, has_type_prop b n g TInt)
  has_type_prop (MIf0 c a b) n g t = hlevel (has_type_prop c n g TInt, has_type_prop a n g t, has_type_prop b n g t)
  has_type_prop (MLet a b) n g t =
      unique₃ (λ s. has_type_prop a n g s) (λ s. has_type_prop b n (MoreTys s g) t)
      (λ s u h k h' k'. one_type a n g s u h h')
  has_type_prop (MPack x e s) n g t =
      shape_prop (below_prop n x) (below_prop n s) (λ u. has_type_prop e n g (put 0 x u))
  has_type_prop (MOpen a b) n g t =
      unique₄ (λ u. below_prop n t) (λ u. has_type_prop a n g (TSome u))
      (λ u. has_type_prop b (n + 1) (in_open u g) (shift 1 0 t))
      (λ u v h k l h' k' l'. some_is (one_type a n g (TSome u) (TSome v) k k'))
  has_type_prop (MRef e) n g t =
      unique₃ (λ s. type_set t (TRef s)) (λ s. has_type_prop e n g s) (λ s u h k h' k'. ref_is (sym h ∙ h'))
  has_type_prop (MDeref e) n g t = has_type_prop e n g (TRef t)
  has_type_prop (MAssign a b) n g t =
      unique₄ (λ s. type_set t (TTuple NoTys)) (λ s. has_type_prop a n g (TRef s)) (λ s. has_type_prop b n g s)
      (λ s u h k l h' k' l'. ref_is (one_type a n g (TRef s) (TRef u) k k'))

  pub have_types_prop : (es : Terms) (n : ℕ) (g ts : Tys) → IsProp (HaveTypes es n g ts)
  have_types_prop NoTerms n g ts = types_set ts NoTys
  have_types_prop (MoreTerms e es) n g ts = fields_prop (λ t. has_type_prop e n g t) (λ us. have_types_prop es n g us)

pub typed_prop : (e : Term) (t : Ty) → IsProp (IsTyped e t)
typed_prop e t = has_type_prop e 0 NoTys t

type_within_prop : (e : Term) (n : ℕ) (g : Tys) → IsProp (TypeHas Within e n g)
type_within_prop e n g = hlevel props

mutual
  keeps_prop : (e : Term) (n : ℕ) (g : Tys) → IsProp (KeepsLimits e n g)
  keeps_prop (MVar i) n g = type_within_prop (MVar i) n g
  keeps_prop (MNum i) n g = type_within_prop (MNum i) n g
  keeps_prop (MFix arg res e) n g = hlevel (type_within_prop (MFix arg res e) n g, keeps_prop e n (in_fix arg res g))
  keeps_prop (MApp f x) n g = hlevel (type_within_prop (MApp f x) n g, keeps_prop f n g, keeps_prop x n g)
  keeps_prop (MGen e) n g = hlevel (type_within_prop (MGen e) n g, keeps_prop e (n + 1) (raised g))
  keeps_prop (MInst e t) n g = hlevel (props, type_within_prop (MInst e t) n g, keeps_prop e n g)
  keeps_prop (MTuple es) n g = hlevel (type_within_prop (MTuple es) n g, all_keep_prop es n g)
  keeps_prop (MProj i e) n g = hlevel (type_within_prop (MProj i e) n g, keeps_prop e n g)
  keeps_prop (MArith op a b) n g = hlevel (type_within_prop (MArith op a b) n g, keeps_prop a n g, keeps_prop b n g)
  keeps_prop (MIf0 c a b) n g = hlevel
      (type_within_prop (MIf0 c a b) n g, keeps_prop c n g, keeps_prop a n g, keeps_prop b n g)
  keeps_prop (MLet a b) n g = hlevel
      (type_within_prop (MLet a b) n g, keeps_prop a n g, λ (t : Ty). keeps_prop b n (MoreTys t g))
  keeps_prop (MPack h e s) n g = hlevel (props, type_within_prop (MPack h e s) n g, keeps_prop e n g)
  keeps_prop (MOpen a b) n g = hlevel
      (type_within_prop (MOpen a b) n g, keeps_prop a n g, λ (t : Ty). keeps_prop b (n + 1) (in_open t g))
  keeps_prop (MRef e) n g = hlevel (type_within_prop (MRef e) n g, keeps_prop e n g)
  keeps_prop (MDeref e) n g = hlevel (type_within_prop (MDeref e) n g, keeps_prop e n g)
  keeps_prop (MAssign a b) n g = hlevel
      (type_within_prop (MAssign a b) n g, keeps_prop a n g, keeps_prop b n g)

  all_keep_prop : (es : Terms) (n : ℕ) (g : Tys) → IsProp (AllKeep Within es n g)
  all_keep_prop NoTerms n g = hlevel
  all_keep_prop (MoreTerms e es) n g = hlevel (keeps_prop e n g, all_keep_prop es n g)

pub accepted_prop : (e : Term) (t : Ty) → IsProp (IsAccepted e t)
accepted_prop e t = hlevel (typed_prop e t, keeps_prop e 0 NoTys)
