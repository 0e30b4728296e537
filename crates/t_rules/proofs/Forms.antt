-- Refusals by the form of a type, and by a field.
use Rattle.std.proofs.Common.{◌≡◌, ℕ, Bool, sym, subst, refl, Option, Some, None}
use Rattle.t_types.specs.Tree.{Ty, IntTy, VarTy, CodeTy, ExistsTy, TupleTy, TFile, TFields}
use Rattle.t_types.specs.Fields.{TField, AField}
use Rattle.text_core.proofs.Refusals.{Clear, One, Settles, holds, comes}
use Rattle.t_rules.specs.Faults.{FaultWith, if_code, if_exists, if_tuple, if_field}

pub clear_exists : {t u : Ty} (other : FaultWith) (go : Ty → FaultWith) → t ≡ ExistsTy u → Clear (go u) →
    Clear (if_exists t other go)
clear_exists other go e k = subst (λ t. Clear (if_exists t other go)) (sym e) k

pub clear_field : {o : Option TField} {t : Ty} {flag : Bool} (other : FaultWith) (go : Ty → Bool → FaultWith) →
    o ≡ Some (AField t flag) → Clear (go t flag) → Clear (if_field o other go)
clear_field other go e k = subst (λ o. Clear (if_field o other go)) (sym e) k

pub one_code : {other : FaultWith} {go : ℕ → TFile → FaultWith} (t : Ty) → One other →
    ((owes : ℕ) (file : TFile) → One (go owes file)) → One (if_code t other go)
one_code (CodeTy owes file) x y = y owes file
one_code IntTy x y = x
one_code (VarTy i) x y = x
one_code (ExistsTy t) x y = x
one_code (TupleTy fs) x y = x

pub one_exists : {other : FaultWith} {go : Ty → FaultWith} (t : Ty) → One other → ((u : Ty) → One (go u)) →
    One (if_exists t other go)
one_exists (ExistsTy t) x y = y t
one_exists IntTy x y = x
one_exists (VarTy i) x y = x
one_exists (CodeTy owes file) x y = x
one_exists (TupleTy fs) x y = x

pub one_tuple : {other : FaultWith} {go : TFields → FaultWith} (t : Ty) → One other → ((fs : TFields) → One (go fs)) →
    One (if_tuple t other go)
one_tuple (TupleTy fs) x y = y fs
one_tuple IntTy x y = x
one_tuple (VarTy i) x y = x
one_tuple (CodeTy owes file) x y = x
one_tuple (ExistsTy t) x y = x

pub one_field : {other : FaultWith} {go : Ty → Bool → FaultWith} (o : Option TField) → One other →
    ((t : Ty) (flag : Bool) → One (go t flag)) → One (if_field o other go)
one_field None x y = x
one_field (Some (AField t flag)) x y = y t flag

-- a refusal that comes whatever should hold
pub comes_anyway : {G : Type 0} {r : FaultWith} → Settles ⊥ r → Settles G r
comes_anyway (holds g) = absurd g
comes_anyway (comes c p h) = comes c p h

pub settle_code : {G : Type 0} {other : FaultWith} {go : ℕ → TFile → FaultWith} (t : Ty) → Settles ⊥ other →
    ((owes : ℕ) (file : TFile) → t ≡ CodeTy owes file → Settles G (go owes file)) → Settles G (if_code t other go)
settle_code (CodeTy owes file) x y = y owes file refl
settle_code IntTy x y = comes_anyway x
settle_code (VarTy i) x y = comes_anyway x
settle_code (ExistsTy t) x y = comes_anyway x
settle_code (TupleTy fs) x y = comes_anyway x

pub settle_exists : {G : Type 0} {other : FaultWith} {go : Ty → FaultWith} (t : Ty) → Settles ⊥ other →
    ((u : Ty) → t ≡ ExistsTy u → Settles G (go u)) → Settles G (if_exists t other go)
settle_exists (ExistsTy t) x y = y t refl
settle_exists IntTy x y = comes_anyway x
settle_exists (VarTy i) x y = comes_anyway x
settle_exists (CodeTy owes file) x y = comes_anyway x
settle_exists (TupleTy fs) x y = comes_anyway x

pub settle_tuple : {G : Type 0} {other : FaultWith} {go : TFields → FaultWith} (t : Ty) → Settles ⊥ other →
    ((fs : TFields) → t ≡ TupleTy fs → Settles G (go fs)) → Settles G (if_tuple t other go)
settle_tuple (TupleTy fs) x y = y fs refl
settle_tuple IntTy x y = comes_anyway x
settle_tuple (VarTy i) x y = comes_anyway x
settle_tuple (CodeTy owes file) x y = comes_anyway x
settle_tuple (ExistsTy t) x y = comes_anyway x

pub settle_field : {G : Type 0} {other : FaultWith} {go : Ty → Bool → FaultWith} (o : Option TField) → Settles ⊥ other →
    ((t : Ty) (flag : Bool) → o ≡ Some (AField t flag) → Settles G (go t flag)) → Settles G (if_field o other go)
settle_field None x y = comes_anyway x
settle_field (Some (AField t flag)) x y = y t flag refl
