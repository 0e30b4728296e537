-- Terms with types beside their parts, as plain trees. Beside an application, a type application, a tuple, a
-- projection, an `if0`, a `ref` and a `!` stands its own type, beside a `gen` that of its body, beside an `open` that
-- of the name which it binds: the types that the term itself doesn't write.
use Rattle.std.specs.Prelude.{◌≡◌, ℕ, ℤ, List, [], ◌∷◌, Option, Some, None}
use Rattle.idx_core.specs.declared.arith.Op.{Op}
use Rattle.f_terms.specs.Ty.{Ty, TInt, TArrow, TAll, TTuple, TSome, TRef, Tys, NoTys, MoreTys, put}
use Rattle.f_terms.specs.Tm.{Term, MVar, MNum, MFix, MApp, MGen, MInst, MTuple, MProj, MArith, MIf0, MLet, MPack, MOpen}
use Rattle.f_terms.specs.Tm.{MRef, MDeref, MAssign, Terms, NoTerms}
use Rattle.f_terms.specs.Tm.{MoreTerms}
use Rattle.f_terms.specs.Typing.{ty_at, field_ty, raised, in_fix, in_open}

mutual
  pub data Noted : Type 0 where
    EVar : (i : ℕ) → Noted
    ENum : (n : ℤ) → Noted
    EFix : (arg res : Ty) (body : Noted) → Noted
    EApp : (f x : Noted) (t : Ty) → Noted
    EGen : (body : Noted) (t : Ty) → Noted
    EInst : (e : Noted) (s t : Ty) → Noted
    ETuple : (es : Noteds) (t : Ty) → Noted
    EProj : (i : ℕ) (e : Noted) (t : Ty) → Noted
    EArith : (op : Op) (a b : Noted) → Noted
    EIf : (test zero_part other_part : Noted) (t : Ty) → Noted
    ELet : (a b : Noted) → Noted
    EPack : (hidden : Ty) (e : Noted) (shape : Ty) → Noted
    EOpen : (a b : Noted) (t : Ty) → Noted
    ERef : (e : Noted) (t : Ty) → Noted
    EDeref : (e : Noted) (t : Ty) → Noted
    EAssign : (a b : Noted) → Noted

  pub data Noteds : Type 0 where
    NoNoteds : Noteds
    MoreNoteds : (e : Noted) (es : Noteds) → Noteds

abbrev pub noteds : List Noted → Noteds
noteds [] = NoNoteds
noteds (e ∷ es) = MoreNoteds e (noteds es)

-- the term without them
abbrev mutual
  pub bare : Noted → Term
  bare (EVar i) = MVar i
  bare (ENum n) = MNum n
  bare (EFix arg res e) = MFix arg res (bare e)
  bare (EApp f x t) = MApp (bare f) (bare x)
  bare (EGen e t) = MGen (bare e)
  bare (EInst e s t) = MInst (bare e) s
  bare (ETuple es t) = MTuple (bare_all es)
  bare (EProj i e t) = MProj i (bare e)
  bare (EArith op a b) = MArith op (bare a) (bare b)
  bare (EIf c a b t) = MIf0 (bare c) (bare a) (bare b)
  bare (ELet a b) = MLet (bare a) (bare b)
  bare (EPack h e s) = MPack h (bare e) s
  bare (EOpen a b t) = MOpen (bare a) (bare b)
  bare (ERef e t) = MRef (bare e)
  bare (EDeref e t) = MDeref (bare e)
  bare (EAssign a b) = MAssign (bare a) (bare b)

  pub bare_all : Noteds → Terms
  bare_all NoNoteds = NoTerms
  bare_all (MoreNoteds e es) = MoreTerms (bare e) (bare_all es)

abbrev pub or_int : Option Ty → Ty
or_int None = TInt
or_int (Some t) = t

abbrev pub result_of : Ty → Ty
result_of (TArrow a b) = b
result_of _ = TInt

abbrev pub body_of : Ty → Ty
body_of (TAll t) = t
body_of _ = TInt

abbrev pub fields_of : Ty → Tys
fields_of (TTuple ts) = ts
fields_of _ = NoTys

abbrev pub opened_of : Ty → Ty
opened_of (TSome t) = t
opened_of _ = TInt

abbrev pub held_of : Ty → Ty
held_of (TRef t) = t
held_of _ = TInt

-- a type outside of the innermost type name, which isn't in it
abbrev pub outside : Ty → Ty
outside t = put 0 TInt t

-- the type of a typed term, where the names have these types
abbrev mutual
  pub type_of : Term → Tys → Ty
  type_of (MVar i) g = or_int (ty_at g i)
  type_of (MNum n) g = TInt
  type_of (MFix arg res e) g = TArrow arg res
  type_of (MApp f x) g = result_of (type_of f g)
  type_of (MGen e) g = TAll (type_of e (raised g))
  type_of (MInst e s) g = put 0 s (body_of (type_of e g))
  type_of (MTuple es) g = TTuple (types_of es g)
  type_of (MProj i e) g = or_int (field_ty (fields_of (type_of e g)) i)
  type_of (MArith op a b) g = TInt
  type_of (MIf0 c a b) g = type_of a g
  type_of (MLet a b) g = type_of b (MoreTys (type_of a g) g)
  type_of (MPack h e s) g = s
  type_of (MOpen a b) g = outside (type_of b (in_open (opened_of (type_of a g)) g))
  type_of (MRef e) g = TRef (type_of e g)
  type_of (MDeref e) g = held_of (type_of e g)
  type_of (MAssign a b) g = TTuple NoTys

  pub types_of : Terms → Tys → Tys
  types_of NoTerms g = NoTys
  types_of (MoreTerms e es) g = MoreTys (type_of e g) (types_of es g)

-- each type that stands beside a part is the type that the part has there
abbrev mutual
  pub Beside : Noted → Tys → Type 0
  Beside (EVar i) g = Unit {0}
  Beside (ENum n) g = Unit {0}
  Beside (EFix arg res e) g = Beside e (in_fix arg res g)
  Beside (EApp f x t) g = (t ≡ type_of (MApp (bare f) (bare x)) g) × Beside f g × Beside x g
  Beside (EGen e t) g = (t ≡ type_of (bare e) (raised g)) × Beside e (raised g)
  Beside (EInst e s t) g = (t ≡ type_of (MInst (bare e) s) g) × Beside e g
  Beside (ETuple es t) g = (t ≡ type_of (MTuple (bare_all es)) g) × AllBeside es g
  Beside (EProj i e t) g = (t ≡ type_of (MProj i (bare e)) g) × Beside e g
  Beside (EArith op a b) g = Beside a g × Beside b g
  Beside (EIf c a b t) g = (t ≡ type_of (bare a) g) × Beside c g × Beside a g × Beside b g
  Beside (ELet a b) g = Beside a g × Beside b (MoreTys (type_of (bare a) g) g)
  Beside (EPack h e s) g = Beside e g
  Beside (EOpen a b t) g = (t ≡ opened_of (type_of (bare a) g)) × Beside a g × Beside b (in_open t g)
  Beside (ERef e t) g = (t ≡ type_of (MRef (bare e)) g) × Beside e g
  Beside (EDeref e t) g = (t ≡ type_of (MDeref (bare e)) g) × Beside e g
  Beside (EAssign a b) g = Beside a g × Beside b g

  pub AllBeside : Noteds → Tys → Type 0
  AllBeside NoNoteds g = Unit {0}
  AllBeside (MoreNoteds e es) g = Beside e g × AllBeside es g
