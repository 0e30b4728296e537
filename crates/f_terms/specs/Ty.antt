-- Types of the source calculus as plain trees, their variables by number: 0 is the innermost binder.
use Rattle.std.specs.Prelude.{ℕ, ◌+◌, List, [], ◌∷◌, max}
use Rattle.idx_core.specs.Over.{Over, Each, shifted, putted, IsWord, ShiftFitsAt, PutFitsAt, BelowAt, AnyDepth}

mutual
  pub data Ty : Type 0 where
    TInt : Ty
    TVar : (i : ℕ) → Ty
    TArrow : (a b : Ty) → Ty
    TAll : (t : Ty) → Ty
    TTuple : (ts : Tys) → Ty
    TSome : (t : Ty) → Ty
    TRef : (t : Ty) → Ty

  pub data Tys : Type 0 where
    NoTys : Tys
    MoreTys : (t : Ty) (ts : Tys) → Tys

-- several types, of a list
abbrev pub tys : List Ty → Tys
tys [] = NoTys
tys (t ∷ ts) = MoreTys t (tys ts)

-- the type with each variable i at depth d replaced by f d i
abbrev mutual
  pub over : Over Ty Ty
  over f d TInt = TInt
  over f d (TVar i) = f d i
  over f d (TArrow a b) = TArrow (over f d a) (over f d b)
  over f d (TAll t) = TAll (over f (d + 1) t)
  over f d (TTuple ts) = TTuple (over_all f d ts)
  over f d (TSome t) = TSome (over f (d + 1) t)
  over f d (TRef t) = TRef (over f d t)

  pub over_all : Over Ty Tys
  over_all f d NoTys = NoTys
  over_all f d (MoreTys t ts) = MoreTys (over f d t) (over_all f d ts)

-- each variable i at depth d has V d i, and each depth below a binder has B d
abbrev mutual
  pub each : Each Ty
  each V B d TInt = Unit {0}
  each V B d (TVar i) = V d i
  each V B d (TArrow a b) = each V B d a × each V B d b
  each V B d (TAll t) = B (d + 1) × each V B (d + 1) t
  each V B d (TTuple ts) = each_all V B d ts
  each V B d (TSome t) = B (d + 1) × each V B (d + 1) t
  each V B d (TRef t) = each V B d t

  pub each_all : Each Tys
  each_all V B d NoTys = Unit {0}
  each_all V B d (MoreTys t ts) = each V B d t × each_all V B d ts

-- free indices from c on grow by k
abbrev pub shift : ℕ → ℕ → Ty → Ty
shift k c = over (shifted TVar k) c

-- s stands for the free index c, and each free index above it is lowered by 1
abbrev pub put : ℕ → Ty → Ty → Ty
put c s = over (putted TVar over c s) c

-- the same, where the walk stands at depth d
abbrev pub put_from : ℕ → Ty → ℕ → Ty → Ty
put_from c s = over (putted TVar over c s)

-- the sums that a shift, and a put, forms are numbers of 64 bits
abbrev pub ShiftFits : ℕ → ℕ → Ty → Type 0
ShiftFits k c = each (ShiftFitsAt k) IsWord c

abbrev pub PutFits : ℕ → Ty → ℕ → Ty → Type 0
PutFits c s d = each (PutFitsAt each c s) IsWord d

-- each free index is less than n
abbrev pub Below : ℕ → Ty → Type 0
Below n = each BelowAt AnyDepth n

-- no index is free
abbrev pub Closed : Ty → Type 0
Closed t = Below 0 t

-- the number of nodes
abbrev mutual
  pub size : Ty → ℕ
  size TInt = 1
  size (TVar i) = 1
  size (TArrow a b) = 1 + size a + size b
  size (TAll t) = 1 + size t
  size (TTuple ts) = 1 + sizes ts
  size (TSome t) = 1 + size t
  size (TRef t) = 1 + size t

  pub sizes : Tys → ℕ
  sizes NoTys = 0
  sizes (MoreTys t ts) = size t + sizes ts

-- 1 where there are no parts, else 1 and the greatest depth of the parts
abbrev mutual
  pub depth : Ty → ℕ
  depth TInt = 1
  depth (TVar i) = 1
  depth (TArrow a b) = 1 + max (depth a) (depth b)
  depth (TAll t) = 1 + depth t
  depth (TTuple ts) = 1 + depths ts
  depth (TSome t) = 1 + depth t
  depth (TRef t) = 1 + depth t

  pub depths : Tys → ℕ
  depths NoTys = 0
  depths (MoreTys t ts) = max (depth t) (depths ts)
