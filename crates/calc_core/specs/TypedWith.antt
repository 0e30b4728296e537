-- Typing of the calculi between source and allocation where each type that is written, or that typing gives to a value
-- or a name, has a property.
use Rattle.std.specs.Prelude.{◌≡◌, ℕ, suc, List, ◌∷◌}
use Rattle.calc_core.specs.Ends.{lift, after_one}
use Rattle.calc_core.specs.Types.{Ty, Tys, IntTy, VarTy, TupleTy, CodeTy, ExistsTy, RefTy, NoTys, MoreTys, count}
use Rattle.calc_core.specs.Substitution.{with_type, with_types, under_binders, substituted, all_substituted}
use Rattle.calc_core.specs.Scope.{InScope, AllInScope, IsTypeOf, IsField}
use Rattle.calc_core.specs.Calculus.{Body, Open, Shut, Kind, Val, Var, Int, Tuple, Code, Label, Apply, Pack}
use Rattle.calc_core.specs.Calculus.{Vals, NoVals, MoreVals}
use Rattle.calc_core.specs.Calculus.{Decl, Name, Proj, Arith, Packs, Unpack, Cell, Get, Set, Tm, Let, Call, If, Halt}
use Rattle.calc_core.specs.Calculus.{opens, scope_more, names_in, body_scope}
use Rattle.calc_core.specs.Typing.{LabelTypes}

-- a property of types under n names
abbrev pub Property : Type 1
Property = ℕ → Ty → Type 0

abbrev pub All : Property → ℕ → Tys → Type 0
All P n NoTys = Unit {0}
All P n (MoreTys t ts) = P n t × All P n ts

-- of the arguments of a code, where no names around it may stand in them
abbrev pub ArgsWith : Body → Property → ℕ → Tys → Type 0
ArgsWith Open P n ts = Unit {0}
ArgsWith Shut P n ts = All P n ts

abbrev mutual
  pub HasWith : {k : Kind} → Property → LabelTypes → ℕ → List Ty → Val k → Ty → Type 0
  HasWith P L n g (Var i) t = P n t × IsTypeOf g i t
  HasWith P L n g (Int m) t = P n t × (t ≡ IntTy)
  HasWith P L n g (Tuple vs) t = P n t × (ts : Tys) × (t ≡ TupleTy ts) × HaveWith P L n g vs ts
  HasWith P L n g (Code {b = b} owes args body) t = P n t × (t ≡ CodeTy owes args) × AllInScope (names_in b owes n) args
      × ArgsWith b P (names_in b owes n) args × TypedWith P L (names_in b owes n) (body_scope b owes args g) body
  HasWith P L n g (Label l) t = P n t × L l t
  HasWith P L n g (Apply v ts) t = P n t × (owes : ℕ) × (args : Tys)
      × (t ≡ CodeTy owes (all_substituted (under_binders owes (with_types ts VarTy)) args))
      × HasWith P L n g v (CodeTy (lift owes (count ts)) args) × AllInScope n ts × All P n ts
  HasWith P L n g (Pack h v s) t = P n t × (u : Ty) × (s ≡ ExistsTy u) × (t ≡ s) × InScope n h × InScope n s × P n h
      × HasWith P L n g v (substituted (with_type h VarTy) u)

  pub HaveWith : {k : Kind} → Property → LabelTypes → ℕ → List Ty → Vals k → Tys → Type 0
  HaveWith P L n g NoVals ts = ts ≡ NoTys
  HaveWith P L n g (MoreVals v vs) ts = (u : Ty) × (us : Tys) × (ts ≡ MoreTys u us) × HasWith P L n g v u
      × HaveWith P L n g vs us

  pub GivesWith : {k : Kind} → Property → LabelTypes → ℕ → List Ty → Decl k → Ty → Type 0
  GivesWith P L n g (Name v) t = HasWith P L n g v t
  GivesWith P L n g (Proj i v) t = P n t × (ts : Tys) × HasWith P L n g v (TupleTy ts) × IsField i ts t
  GivesWith P L n g (Arith op v w) t = P n t × (t ≡ IntTy) × HasWith P L n g v IntTy × HasWith P L n g w IntTy
  GivesWith P L n g (Packs h v s) t = P n t × P n h × (u : Ty) × (s ≡ ExistsTy u) × (t ≡ s) × InScope n h × InScope n s
      × HasWith P L n g v (substituted (with_type h VarTy) u)
  GivesWith P L n g (Unpack v) t = P (suc n) t × HasWith P L n g v (ExistsTy t)
  GivesWith P L n g (Cell v) t = P n t × (u : Ty) × (t ≡ RefTy u) × HasWith P L n g v u
  GivesWith P L n g (Get v) t = P n t × HasWith P L n g v (RefTy t)
  GivesWith P L n g (Set v w) t = P n t × (u : Ty) × (t ≡ TupleTy NoTys) × HasWith P L n g v (RefTy u)
      × HasWith P L n g w u

  pub TypedWith : {k : Kind} → Property → LabelTypes → ℕ → List Ty → Tm k → Type 0
  TypedWith P L n g (Let d t) = (u : Ty) × GivesWith P L n g d u
      × TypedWith P L (after_one (opens d) n) (u ∷ scope_more (opens d) g) t
  TypedWith P L n g (Call f ts vs) = (us : Tys) × HasWith P L n g f (CodeTy (count ts) us) × AllInScope n ts
      × All P n ts × HaveWith P L n g vs (all_substituted (with_types ts VarTy) us)
  TypedWith P L n g (If v t u) = HasWith P L n g v IntTy × TypedWith P L n g t × TypedWith P L n g u
  TypedWith P L n g (Halt v) = HasWith P L n g v IntTy
