-- Types are a set: their equality is a proposition.
use Rattle.std.proofs.Common.{◌≡◌, ℕ, refl, ap, ap₂}
use Rattle.std.proofs.Math.Decide.{ℕ_discrete}
use mathlib.Core.HLevel.{hedberg}
use Rattle.calc_core.specs.Types.{Ty, IntTy, VarTy, TupleTy, CodeTy, ExistsTy, RefTy, Tys, NoTys, MoreTys}

code_is : {m n : ℕ} {s t : Tys} → CodeTy m s ≡ CodeTy n t → (m ≡ n) × (s ≡ t)
code_is e = (cc, cc)

more_is : {a b : Ty} {s t : Tys} → MoreTys a s ≡ MoreTys b t → (a ≡ b) × (s ≡ t)
more_is e = (cc, cc)

var_is : {i j : ℕ} → VarTy i ≡ VarTy j → i ≡ j
var_is e = cc

tuple_is : {a b : Tys} → TupleTy a ≡ TupleTy b → a ≡ b
tuple_is e = cc

exists_is : {a b : Ty} → ExistsTy a ≡ ExistsTy b → a ≡ b
exists_is e = cc

ref_is : {a b : Ty} → RefTy a ≡ RefTy b → a ≡ b
ref_is e = cc

if_exists : {a b : Ty} → Dec (a ≡ b) → Dec (ExistsTy a ≡ ExistsTy b)
if_exists (yes e) = yes (ap ExistsTy e)
if_exists (no f) = no (λ e. f (exists_is e))

if_ref : {a b : Ty} → Dec (a ≡ b) → Dec (RefTy a ≡ RefTy b)
if_ref (yes e) = yes (ap RefTy e)
if_ref (no f) = no (λ e. f (ref_is e))

if_var : {i j : ℕ} → Dec (i ≡ j) → Dec (VarTy i ≡ VarTy j)
if_var (yes e) = yes (ap VarTy e)
if_var (no f) = no (λ e. f (var_is e))

if_tuple : {a b : Tys} → Dec (a ≡ b) → Dec (TupleTy a ≡ TupleTy b)
if_tuple (yes e) = yes (ap TupleTy e)
if_tuple (no f) = no (λ e. f (tuple_is e))

if_code : {m n : ℕ} {s t : Tys} → Dec (m ≡ n) → Dec (s ≡ t) → Dec (CodeTy m s ≡ CodeTy n t)
if_code (yes e) (yes f) = yes (ap₂ CodeTy e f)
if_code (yes e) (no f) = no (λ h. f (code_is h).1)
if_code (no e) f = no (λ h. e (code_is h).0)

if_more : {a b : Ty} {s t : Tys} → Dec (a ≡ b) → Dec (s ≡ t) → Dec (MoreTys a s ≡ MoreTys b t)
if_more (yes e) (yes f) = yes (ap₂ MoreTys e f)
if_more (yes e) (no f) = no (λ h. f (more_is h).1)
if_more (no e) f = no (λ h. e (more_is h).0)

mutual
  same : (a b : Ty) → Dec (a ≡ b)
  same IntTy IntTy = yes refl
  same (VarTy i) (VarTy j) = if_var (ℕ_discrete i j)
  same (TupleTy s) (TupleTy t) = if_tuple (same_all s t)
  same (CodeTy m s) (CodeTy n t) = if_code (ℕ_discrete m n) (same_all s t)
  same (ExistsTy a) (ExistsTy b) = if_exists (same a b)
  same (RefTy a) (RefTy b) = if_ref (same a b)
  same _ _ = no (λ e. cc)

  same_all : (s t : Tys) → Dec (s ≡ t)
  same_all NoTys NoTys = yes refl
  same_all (MoreTys a s) (MoreTys b t) = if_more (same a b) (same_all s t)
  same_all _ _ = no (λ e. cc)

pub types_set : IsSet Tys
types_set = hedberg same_all

pub type_set : IsSet Ty
type_set = hedberg same
