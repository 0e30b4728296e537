-- Types of the calculi with codes, as plain trees.
use Rattle.std.specs.Prelude.{ℕ, suc}

mutual
  pub data Ty : Type 0 where
    IntTy : Ty
    VarTy : (i : ℕ) → Ty
    TupleTy : (ts : Tys) → Ty
    CodeTy : (owes : ℕ) (args : Tys) → Ty
    ExistsTy : (t : Ty) → Ty
    RefTy : (t : Ty) → Ty

  pub data Tys : Type 0 where
    NoTys : Tys
    MoreTys : (t : Ty) (ts : Tys) → Tys

-- how many types there are
abbrev pub count : Tys → ℕ
count NoTys = 0
count (MoreTys t ts) = suc (count ts)
