-- The calculi between source and allocation, by kind: in continuation-passing style, closed, and hoisted.
use Rattle.std.specs.Prelude.{ℤ, ℕ, suc, Bool, true, false, List, [], ◌∷◌}
use Rattle.idx_core.specs.declared.arith.Op.{Op}
use Rattle.calc_core.specs.Ends.{lift}
use Rattle.calc_core.specs.Types.{Ty, Tys, CodeTy}
use Rattle.calc_core.specs.Substitution.{renamed, scope_renamed}
use Rattle.calc_core.specs.Scope.{args_onto}

-- where codes stand: inside the terms that use them, or apart, in blocks that labels name
pub data Codes : Type 0 where
  Inside : Codes
  Apart : Codes

-- what the body of a code sees beside its arguments: all that is around the code, or nothing of it
pub data Body : Type 0 where
  Open : Body
  Shut : Body

-- the kind of a calculus, and those of the three
pub data Kind : Type 0 where
  Kinded : (codes : Codes) (body : Body) → Kind

abbrev pub Cps : Kind
Cps = Kinded Inside Open

abbrev pub Closed : Kind
Closed = Kinded Inside Shut

abbrev pub Hoisted : Kind
Hoisted = Kinded Apart Shut

-- in the body of a code of m arguments, 0 is the last argument, m - 1 the first, and m the code itself, if it stands
-- inside. Where bodies are open, packages are declared; where they are shut, packages, and codes applied to types, are
-- values
mutual
  pub data Val : Kind → Type 0 where
    Var : {k : Kind} (i : ℕ) → Val k
    Int : {k : Kind} (n : ℤ) → Val k
    Tuple : {k : Kind} (vs : Vals k) → Val k
    Code : {b : Body} (owes : ℕ) (args : Tys) (body : Tm (Kinded Inside b)) → Val (Kinded Inside b)
    Label : {b : Body} (l : ℕ) → Val (Kinded Apart b)
    Apply : {c : Codes} (v : Val (Kinded c Shut)) (types : Tys) → Val (Kinded c Shut)
    Pack : {c : Codes} (hidden : Ty) (inner : Val (Kinded c Shut)) (shape : Ty) → Val (Kinded c Shut)

  pub data Vals : Kind → Type 0 where
    NoVals : {k : Kind} → Vals k
    MoreVals : {k : Kind} (v : Val k) (vs : Vals k) → Vals k

  pub data Decl : Kind → Type 0 where
    Name : {k : Kind} (v : Val k) → Decl k
    Proj : {k : Kind} (i : ℕ) (v : Val k) → Decl k
    Arith : {k : Kind} (op : Op) (v w : Val k) → Decl k
    Packs : {c : Codes} (hidden : Ty) (inner : Val (Kinded c Open)) (shape : Ty) → Decl (Kinded c Open)
    Unpack : {k : Kind} (v : Val k) → Decl k
    Cell : {k : Kind} (v : Val k) → Decl k
    Get : {k : Kind} (v : Val k) → Decl k
    Set : {k : Kind} (v w : Val k) → Decl k

  pub data Tm : Kind → Type 0 where
    Let : {k : Kind} (d : Decl k) (rest : Tm k) → Tm k
    Call : {k : Kind} (code : Val k) (types : Tys) (args : Vals k) → Tm k
    If : {k : Kind} (v : Val k) (zero_part other_part : Tm k) → Tm k
    Halt : {k : Kind} (v : Val k) → Tm k

-- the first number that is free after the codes of a tree, which take numbers from n on, each before those inside it
abbrev mutual
  pub v_next : {b : Body} → ℕ → Val (Kinded Inside b) → ℕ
  v_next n (Var i) = n
  v_next n (Int m) = n
  v_next n (Tuple vs) = vs_next n vs
  v_next n (Code owes args body) = t_next (suc n) body
  v_next n (Apply v ts) = v_next n v
  v_next n (Pack h v s) = v_next n v

  pub vs_next : {b : Body} → ℕ → Vals (Kinded Inside b) → ℕ
  vs_next n NoVals = n
  vs_next n (MoreVals v vs) = vs_next (v_next n v) vs

  pub d_next : {b : Body} → ℕ → Decl (Kinded Inside b) → ℕ
  d_next n (Name v) = v_next n v
  d_next n (Proj i v) = v_next n v
  d_next n (Arith op v w) = v_next (v_next n v) w
  d_next n (Packs h v s) = v_next n v
  d_next n (Unpack v) = v_next n v
  d_next n (Cell v) = v_next n v
  d_next n (Get v) = v_next n v
  d_next n (Set v w) = v_next (v_next n v) w

  pub t_next : {b : Body} → ℕ → Tm (Kinded Inside b) → ℕ
  t_next n (Let d t) = t_next (d_next n d) t
  t_next n (Call f ts vs) = vs_next (v_next n f) vs
  t_next n (If v t u) = t_next (t_next (v_next n v) t) u
  t_next n (Halt v) = v_next n v

-- a declaration that names a type too
abbrev pub opens : {k : Kind} → Decl k → Bool
opens (Unpack v) = true
opens _ = false

-- the types in scope under one more type variable, where there is one
abbrev pub scope_more : Bool → List Ty → List Ty
scope_more true g = scope_renamed suc g
scope_more false g = g

-- how many type variables the body of a code sees, and what it sees beside its arguments
abbrev pub names_in : Body → ℕ → ℕ → ℕ
names_in Open owes n = lift owes n
names_in Shut owes n = owes

abbrev pub around : Body → ℕ → Tys → List Ty → List Ty
around Open owes args g = renamed (lift owes) (CodeTy owes args) ∷ scope_renamed (lift owes) g
around Shut owes args g = CodeTy owes args ∷ []

-- the scope of a code's body
abbrev pub body_scope : Body → ℕ → Tys → List Ty → List Ty
body_scope b owes args g = args_onto args (around b owes args g)
