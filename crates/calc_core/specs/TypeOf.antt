-- The type of a value and of what a declaration names, where it has one.
use Rattle.std.specs.Prelude.{ℕ, zero, suc, ◌-◌, List, [], ◌∷◌}
use Rattle.calc_core.specs.Ends.{after_one}
use Rattle.calc_core.specs.Types.{Ty, Tys, IntTy, VarTy, TupleTy, CodeTy, ExistsTy, RefTy, NoTys, MoreTys, count}
use Rattle.calc_core.specs.Substitution.{with_types, under_binders, all_substituted}
use Rattle.calc_core.specs.Calculus.{Kind, Val, Var, Int, Tuple, Code, Label, Apply, Pack, Vals, NoVals, MoreVals}
use Rattle.calc_core.specs.Calculus.{Decl, Name, Proj, Arith, Packs, Unpack, Cell, Get, Set, opens, scope_more}

-- the type of variable i, the innermost first
abbrev pub type_at : List Ty → ℕ → Ty
type_at [] i = IntTy
type_at (t ∷ ts) zero = t
type_at (t ∷ ts) (suc i) = type_at ts i

-- field i, from 1 on
abbrev pub field_type : ℕ → Tys → Ty
field_type i NoTys = IntTy
field_type zero (MoreTys t ts) = IntTy
field_type (suc zero) (MoreTys t ts) = t
field_type (suc (suc i)) (MoreTys t ts) = field_type (suc i) ts

abbrev pub proj_type : ℕ → Ty → Ty
proj_type i (TupleTy ts) = field_type i ts
proj_type i _ = IntTy

-- what a package holds, under its type variable
abbrev pub open_type : Ty → Ty
open_type (ExistsTy t) = t
open_type _ = IntTy

-- what a cell holds
abbrev pub held_type : Ty → Ty
held_type (RefTy t) = t
held_type _ = IntTy

-- what is read off a label where no label has a type
abbrev pub untold : ℕ → Ty
untold i = IntTy

-- a code applied to types
abbrev pub applied_type : Ty → Tys → Ty
applied_type (CodeTy owes args) ts =
    let left = owes - count ts in CodeTy left (all_substituted (under_binders left (with_types ts VarTy)) args)
applied_type _ ts = IntTy

abbrev mutual
  -- l gives the types of labels
  pub type_of : {k : Kind} → (ℕ → Ty) → List Ty → Val k → Ty
  type_of l g (Var i) = type_at g i
  type_of l g (Int n) = IntTy
  type_of l g (Tuple vs) = TupleTy (types_of l g vs)
  type_of l g (Code owes args body) = CodeTy owes args
  type_of l g (Label i) = l i
  type_of l g (Apply v ts) = applied_type (type_of l g v) ts
  type_of l g (Pack h v s) = s

  pub types_of : {k : Kind} → (ℕ → Ty) → List Ty → Vals k → Tys
  types_of l g NoVals = NoTys
  types_of l g (MoreVals v vs) = MoreTys (type_of l g v) (types_of l g vs)

-- the type of what a declaration names; that of an unpacked value stands under the new type variable
abbrev pub decl_type : {k : Kind} → (ℕ → Ty) → List Ty → Decl k → Ty
decl_type l g (Name v) = type_of l g v
decl_type l g (Proj i v) = proj_type i (type_of l g v)
decl_type l g (Arith op v w) = IntTy
decl_type l g (Packs h v s) = s
decl_type l g (Unpack v) = open_type (type_of l g v)
decl_type l g (Cell v) = RefTy (type_of l g v)
decl_type l g (Get v) = held_type (type_of l g v)
decl_type l g (Set v w) = TupleTy NoTys

-- the types of the names behind a declaration, and how many type variables there are then
abbrev pub names_behind : {k : Kind} → (ℕ → Ty) → List Ty → Decl k → List Ty
names_behind l g d = decl_type l g d ∷ scope_more (opens d) g

abbrev pub types_behind : {k : Kind} → ℕ → Decl k → ℕ
types_behind n d = after_one (opens d) n
