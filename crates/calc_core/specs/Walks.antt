-- The walks over the variables of a type: shift, put and below.
use Rattle.std.specs.Prelude.{ℕ, ◌+◌}
use Rattle.idx_core.specs.Over.{Over, Each, shifted, putted, IsWord, ShiftFitsAt, PutFitsAt, BelowAt, AnyDepth}
use Rattle.calc_core.specs.Types.{Ty, IntTy, VarTy, TupleTy, CodeTy, ExistsTy, RefTy, Tys, NoTys, MoreTys}

-- the type with each variable i at depth d replaced by f d i; a code binds the types that it owes, and `some` binds one
abbrev mutual
  pub over : Over Ty Ty
  over f d IntTy = IntTy
  over f d (VarTy i) = f d i
  over f d (TupleTy ts) = TupleTy (over_all f d ts)
  over f d (CodeTy owes args) = CodeTy owes (over_all f (d + owes) args)
  over f d (ExistsTy t) = ExistsTy (over f (d + 1) t)
  over f d (RefTy t) = RefTy (over f d t)

  pub over_all : Over Ty Tys
  over_all f d NoTys = NoTys
  over_all f d (MoreTys t ts) = MoreTys (over f d t) (over_all f d ts)

-- each variable i at depth d has V d i, and each depth below a binder has B d
abbrev mutual
  pub each : Each Ty
  each V B d IntTy = Unit {0}
  each V B d (VarTy i) = V d i
  each V B d (TupleTy ts) = each_all V B d ts
  each V B d (CodeTy owes args) = B (d + owes) × each_all V B (d + owes) args
  each V B d (ExistsTy t) = B (d + 1) × each V B (d + 1) t
  each V B d (RefTy t) = each V B d t

  pub each_all : Each Tys
  each_all V B d NoTys = Unit {0}
  each_all V B d (MoreTys t ts) = each V B d t × each_all V B d ts

-- free indices from c on grow by k
abbrev pub shift : ℕ → ℕ → Ty → Ty
shift k c = over (shifted VarTy k) c

abbrev pub shift_all : ℕ → ℕ → Tys → Tys
shift_all k c = over_all (shifted VarTy k) c

-- s stands for the index that is c at the root, in a walk that stands at depth d, and each free index above it is
-- lowered by 1
abbrev pub put_from : ℕ → Ty → ℕ → Ty → Ty
put_from c s d = over (putted VarTy over c s) d

abbrev pub put_all_from : ℕ → Ty → ℕ → Tys → Tys
put_all_from c s d = over_all (putted VarTy over c s) d

abbrev pub put : ℕ → Ty → Ty → Ty
put c s = put_from c s c

-- the sums that a shift, and a put, forms are numbers of 64 bits
abbrev pub ShiftFits : ℕ → ℕ → Ty → Type 0
ShiftFits k c = each (ShiftFitsAt k) IsWord c

abbrev pub PutFits : ℕ → Ty → ℕ → Ty → Type 0
PutFits c s d = each (PutFitsAt each c s) IsWord d

-- each free index is less than n
abbrev pub Below : ℕ → Ty → Type 0
Below n = each BelowAt AnyDepth n

abbrev pub BelowAll : ℕ → Tys → Type 0
BelowAll n = each_all BelowAt AnyDepth n
