-- Typing of the calculi between source and allocation.
use Rattle.std.specs.Prelude.{◌≡◌, ℕ, List, ◌∷◌}
use Rattle.calc_core.specs.Ends.{lift, after_one}
use Rattle.calc_core.specs.Types.{Ty, Tys, IntTy, VarTy, TupleTy, CodeTy, ExistsTy, RefTy, NoTys, MoreTys, count}
use Rattle.calc_core.specs.Substitution.{with_type, with_types, under_binders, substituted, all_substituted}
use Rattle.calc_core.specs.Scope.{InScope, AllInScope, IsTypeOf, IsField}
use Rattle.calc_core.specs.Calculus.{Kind, Val, Var, Int, Tuple, Code, Label, Apply, Pack, Vals, NoVals, MoreVals}
use Rattle.calc_core.specs.Calculus.{Decl, Name, Proj, Arith, Packs, Unpack, Cell, Get, Set, Tm, Let, Call, If, Halt}
use Rattle.calc_core.specs.Calculus.{opens, scope_more, names_in, body_scope}

-- which type a label has
abbrev pub LabelTypes : Type 1
LabelTypes = ℕ → Ty → Type 0

-- none, where codes stand inside
abbrev pub NoLabels : LabelTypes
NoLabels l t = ⊥

abbrev mutual
  pub Has : {k : Kind} → LabelTypes → ℕ → List Ty → Val k → Ty → Type 0
  Has L n g (Var i) t = IsTypeOf g i t
  Has L n g (Int m) t = t ≡ IntTy
  Has L n g (Tuple vs) t = (ts : Tys) × (t ≡ TupleTy ts) × Have L n g vs ts
  Has L n g (Code {b = b} owes args body) t = (t ≡ CodeTy owes args) × AllInScope (names_in b owes n) args
      × Typed L (names_in b owes n) (body_scope b owes args g) body
  Has L n g (Label l) t = L l t
  Has L n g (Apply v ts) t = (owes : ℕ) × (args : Tys)
      × (t ≡ CodeTy owes (all_substituted (under_binders owes (with_types ts VarTy)) args))
      × Has L n g v (CodeTy (lift owes (count ts)) args) × AllInScope n ts
  Has L n g (Pack h v s) t = (u : Ty) × (s ≡ ExistsTy u) × (t ≡ s) × InScope n h × InScope n s
      × Has L n g v (substituted (with_type h VarTy) u)

  pub Have : {k : Kind} → LabelTypes → ℕ → List Ty → Vals k → Tys → Type 0
  Have L n g NoVals ts = ts ≡ NoTys
  Have L n g (MoreVals v vs) ts = (u : Ty) × (us : Tys) × (ts ≡ MoreTys u us) × Has L n g v u × Have L n g vs us

  -- a declaration names a value of type t; an unpacked one's stands under the new type variable
  pub Gives : {k : Kind} → LabelTypes → ℕ → List Ty → Decl k → Ty → Type 0
  Gives L n g (Name v) t = Has L n g v t
  Gives L n g (Proj i v) t = (ts : Tys) × Has L n g v (TupleTy ts) × IsField i ts t
  Gives L n g (Arith op v w) t = (t ≡ IntTy) × Has L n g v IntTy × Has L n g w IntTy
  Gives L n g (Packs h v s) t = (u : Ty) × (s ≡ ExistsTy u) × (t ≡ s) × InScope n h × InScope n s
      × Has L n g v (substituted (with_type h VarTy) u)
  Gives L n g (Unpack v) t = Has L n g v (ExistsTy t)
  Gives L n g (Cell v) t = (u : Ty) × (t ≡ RefTy u) × Has L n g v u
  Gives L n g (Get v) t = Has L n g v (RefTy t)
  Gives L n g (Set v w) t = (u : Ty) × (t ≡ TupleTy NoTys) × Has L n g v (RefTy u) × Has L n g w u

  pub Typed : {k : Kind} → LabelTypes → ℕ → List Ty → Tm k → Type 0
  Typed L n g (Let d t) = (u : Ty) × Gives L n g d u × Typed L (after_one (opens d) n) (u ∷ scope_more (opens d) g) t
  Typed L n g (Call f ts vs) = (us : Tys) × Has L n g f (CodeTy (count ts) us) × AllInScope n ts
      × Have L n g vs (all_substituted (with_types ts VarTy) us)
  Typed L n g (If v t u) = Has L n g v IntTy × Typed L n g t × Typed L n g u
  Typed L n g (Halt v) = Has L n g v IntTy
