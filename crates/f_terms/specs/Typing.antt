-- Source typing.
use Rattle.std.specs.Prelude.{◌≡◌, ℕ, zero, suc, ◌+◌, Option, Some, None}
use Rattle.idx_core.specs.Over.{shifted}
use Rattle.f_terms.specs.Ty.{Ty, TInt, TVar, TArrow, TAll, TTuple, TSome, TRef, Tys, NoTys, MoreTys, over_all, shift}
use Rattle.f_terms.specs.Ty.{put, Below}
use Rattle.f_terms.specs.Tm.{Term, MVar, MNum, MFix, MApp, MGen, MInst, MTuple, MProj, MArith, MIf0, MLet, MPack, MOpen}
use Rattle.f_terms.specs.Tm.{MRef, MDeref, MAssign, Terms, NoTerms}
use Rattle.f_terms.specs.Tm.{MoreTerms}

-- the type of the value variable i
abbrev pub ty_at : Tys → ℕ → Option Ty
ty_at NoTys i = None
ty_at (MoreTys t ts) zero = Some t
ty_at (MoreTys t ts) (suc i) = ty_at ts i

-- the type of field i, counted from 1
abbrev pub field_ty : Tys → ℕ → Option Ty
field_ty ts zero = None
field_ty ts (suc i) = ty_at ts i

-- a context under one more type variable
abbrev pub raised : Tys → Tys
raised g = over_all (shifted TVar 1) 0 g

-- the context of the body of a function
abbrev pub in_fix : Ty → Ty → Tys → Tys
in_fix arg res g = MoreTys arg (MoreTys (TArrow arg res) g)

-- the context of the second part of an open, whose first part hides a type in t
abbrev pub in_open : Ty → Tys → Tys
in_open t g = MoreTys t (raised g)

-- the term has the type t under n type variables, where g has the types of the value variables: a rule for each form,
-- where each type that is written in the term is in scope. The type of an open is one of outside, so that the hidden
-- type isn't in it
abbrev mutual
  pub HasType : Term → ℕ → Tys → Ty → Type 0
  HasType (MVar i) n g t = ty_at g i ≡ Some t
  HasType (MNum i) n g t = t ≡ TInt
  HasType (MFix arg res e) n g t = (t ≡ TArrow arg res) × Below n arg × Below n res × HasType e n (in_fix arg res g) res
  HasType (MApp f x) n g t = (s : Ty) × HasType f n g (TArrow s t) × HasType x n g s
  HasType (MGen e) n g t = (s : Ty) × (t ≡ TAll s) × HasType e (n + 1) (raised g) s
  HasType (MInst e s) n g t = (b : Ty) × (t ≡ put 0 s b) × Below n s × HasType e n g (TAll b)
  HasType (MTuple es) n g t = (ts : Tys) × (t ≡ TTuple ts) × HaveTypes es n g ts
  HasType (MProj i e) n g t = (ts : Tys) × (field_ty ts i ≡ Some t) × HasType e n g (TTuple ts)
  HasType (MArith op a b) n g t = (t ≡ TInt) × HasType a n g TInt × HasType b n g TInt
  HasType (MIf0 c a b) n g t = HasType c n g TInt × HasType a n g t × HasType b n g t
  HasType (MLet a b) n g t = (s : Ty) × HasType a n g s × HasType b n (MoreTys s g) t
  HasType (MPack h e s) n g t = (u : Ty) × (s ≡ TSome u) × (t ≡ s) × Below n h × Below n s × HasType e n g (put 0 h u)
  HasType (MOpen a b) n g t = (u : Ty) × Below n t × HasType a n g (TSome u)
      × HasType b (n + 1) (in_open u g) (shift 1 0 t)
  HasType (MRef e) n g t = (s : Ty) × (t ≡ TRef s) × HasType e n g s
  HasType (MDeref e) n g t = HasType e n g (TRef t)
  HasType (MAssign a b) n g t = (s : Ty) × (t ≡ TTuple NoTys) × HasType a n g (TRef s) × HasType b n g s

  pub HaveTypes : Terms → ℕ → Tys → Tys → Type 0
  HaveTypes NoTerms n g ts = ts ≡ NoTys
  HaveTypes (MoreTerms e es) n g ts =
      (t : Ty) × (us : Tys) × (ts ≡ MoreTys t us) × HasType e n g t × HaveTypes es n g us

-- a term with no names around it has the type t
abbrev pub IsTyped : Term → Ty → Type 0
IsTyped e t = HasType e 0 NoTys t

-- a program is a term of type int with no names around it
abbrev pub IsProgram : Term → Type 0
IsProgram e = IsTyped e TInt
