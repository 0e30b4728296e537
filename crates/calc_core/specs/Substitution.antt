-- Types renamed, and types put for type variables: at once, by a function from indices.
use Rattle.std.specs.Prelude.{ℕ, zero, suc, List, [], ◌∷◌}
use Rattle.calc_core.specs.Ends.{under}
use Rattle.calc_core.specs.Types.{Ty, IntTy, VarTy, TupleTy, CodeTy, ExistsTy, RefTy, Tys, NoTys, MoreTys}

-- renaming of type variables
abbrev mutual
  pub renamed : (ℕ → ℕ) → Ty → Ty
  renamed r IntTy = IntTy
  renamed r (VarTy i) = VarTy (r i)
  renamed r (TupleTy ts) = TupleTy (all_renamed r ts)
  renamed r (CodeTy n ts) = CodeTy n (all_renamed (under n r) ts)
  renamed r (ExistsTy t) = ExistsTy (renamed (under 1 r) t)
  renamed r (RefTy t) = RefTy (renamed r t)

  pub all_renamed : (ℕ → ℕ) → Tys → Tys
  all_renamed r NoTys = NoTys
  all_renamed r (MoreTys t ts) = MoreTys (renamed r t) (all_renamed r ts)

abbrev pub scope_renamed : (ℕ → ℕ) → List Ty → List Ty
scope_renamed r [] = []
scope_renamed r (t ∷ ts) = renamed r t ∷ scope_renamed r ts

-- t for index 0, and s for the others
abbrev pub with_type : Ty → (ℕ → Ty) → ℕ → Ty
with_type t s zero = t
with_type t s (suc i) = s i

-- the last type for index 0
abbrev pub with_types : Tys → (ℕ → Ty) → ℕ → Ty
with_types NoTys s = s
with_types (MoreTys t ts) s = with_types ts (with_type t s)

-- types put for variables, under n more type variables
abbrev pub under_binders : ℕ → (ℕ → Ty) → ℕ → Ty
under_binders zero s i = s i
under_binders (suc n) s zero = VarTy 0
under_binders (suc n) s (suc i) = renamed suc (under_binders n s i)

-- types put for type variables
abbrev mutual
  pub substituted : (ℕ → Ty) → Ty → Ty
  substituted s IntTy = IntTy
  substituted s (VarTy i) = s i
  substituted s (TupleTy ts) = TupleTy (all_substituted s ts)
  substituted s (CodeTy n ts) = CodeTy n (all_substituted (under_binders n s) ts)
  substituted s (ExistsTy t) = ExistsTy (substituted (under_binders 1 s) t)
  substituted s (RefTy t) = RefTy (substituted s t)

  pub all_substituted : (ℕ → Ty) → Tys → Tys
  all_substituted s NoTys = NoTys
  all_substituted s (MoreTys t ts) = MoreTys (substituted s t) (all_substituted s ts)
