-- Terms of the source calculus as plain trees: with their places in the text, and with places left aside.
use Rattle.std.specs.Prelude.{ℕ, ℤ, List, [], ◌∷◌}
use Rattle.idx_core.specs.declared.arith.Op.{Op}
use Rattle.f_terms.specs.Ty.{Ty}

-- places left aside. Value names and type names are numbers, counted apart, 0 the innermost binder;
-- in the body of a Fix, value 0 is its argument and value 1 is itself. In the second part of a Let and of an Open,
-- value 0 is the value of the first; in that of an Open, type 0 is the type that is hidden in it. Fields count from 1
mutual
  pub data Term : Type 0 where
    MVar : (i : ℕ) → Term
    MNum : (n : ℤ) → Term
    MFix : (arg res : Ty) (body : Term) → Term
    MApp : (f x : Term) → Term
    MGen : (body : Term) → Term
    MInst : (e : Term) (t : Ty) → Term
    MTuple : (es : Terms) → Term
    MProj : (i : ℕ) (e : Term) → Term
    MArith : (op : Op) (a b : Term) → Term
    MIf0 : (test zero_part other_part : Term) → Term
    MLet : (a b : Term) → Term
    MPack : (hidden : Ty) (e : Term) (shape : Ty) → Term
    MOpen : (a b : Term) → Term
    MRef : (e : Term) → Term
    MDeref : (e : Term) → Term
    MAssign : (a b : Term) → Term

  pub data Terms : Type 0 where
    NoTerms : Terms
    MoreTerms : (e : Term) (es : Terms) → Terms

-- the start of a place, and its end, which is the place after its last byte
abbrev pub Spn : Type 0
Spn = ℕ × ℕ

-- the same with the place of each form first
mutual
  pub data Tm : Type 0 where
    SVar : (s : Spn) (i : ℕ) → Tm
    SNum : (s : Spn) (n : ℤ) → Tm
    SFix : (s : Spn) (arg res : Ty) (body : Tm) → Tm
    SApp : (s : Spn) (f x : Tm) → Tm
    SGen : (s : Spn) (body : Tm) → Tm
    SInst : (s : Spn) (e : Tm) (t : Ty) → Tm
    STuple : (s : Spn) (es : Tms) → Tm
    SProj : (s : Spn) (i : ℕ) (e : Tm) → Tm
    SArith : (s : Spn) (op : Op) (a b : Tm) → Tm
    SIf0 : (s : Spn) (test zero_part other_part : Tm) → Tm
    SLet : (s : Spn) (a b : Tm) → Tm
    SPack : (s : Spn) (hidden : Ty) (e : Tm) (shape : Ty) → Tm
    SOpen : (s : Spn) (a b : Tm) → Tm
    SRef : (s : Spn) (e : Tm) → Tm
    SDeref : (s : Spn) (e : Tm) → Tm
    SAssign : (s : Spn) (a b : Tm) → Tm

  pub data Tms : Type 0 where
    NoTms : Tms
    MoreTms : (e : Tm) (es : Tms) → Tms

-- the term with its places left aside: two terms are equal where these are
abbrev mutual
  pub plain : Tm → Term
  plain (SVar s i) = MVar i
  plain (SNum s n) = MNum n
  plain (SFix s arg res body) = MFix arg res (plain body)
  plain (SApp s f x) = MApp (plain f) (plain x)
  plain (SGen s body) = MGen (plain body)
  plain (SInst s e t) = MInst (plain e) t
  plain (STuple s es) = MTuple (plain_all es)
  plain (SProj s i e) = MProj i (plain e)
  plain (SArith s op a b) = MArith op (plain a) (plain b)
  plain (SIf0 s c a b) = MIf0 (plain c) (plain a) (plain b)
  plain (SLet s a b) = MLet (plain a) (plain b)
  plain (SPack s h e t) = MPack h (plain e) t
  plain (SOpen s a b) = MOpen (plain a) (plain b)
  plain (SRef s e) = MRef (plain e)
  plain (SDeref s e) = MDeref (plain e)
  plain (SAssign s a b) = MAssign (plain a) (plain b)

  pub plain_all : Tms → Terms
  plain_all NoTms = NoTerms
  plain_all (MoreTms e es) = MoreTerms (plain e) (plain_all es)

-- the place of the whole form
abbrev pub span_of : Tm → Spn
span_of (SVar s i) = s
span_of (SNum s n) = s
span_of (SFix s arg res body) = s
span_of (SApp s f x) = s
span_of (SGen s body) = s
span_of (SInst s e t) = s
span_of (STuple s es) = s
span_of (SProj s i e) = s
span_of (SArith s op a b) = s
span_of (SIf0 s c a b) = s
span_of (SLet s a b) = s
span_of (SPack s h e t) = s
span_of (SOpen s a b) = s
span_of (SRef s e) = s
span_of (SDeref s e) = s
span_of (SAssign s a b) = s

-- several terms, of a list
abbrev pub terms : List Term → Terms
terms [] = NoTerms
terms (e ∷ es) = MoreTerms e (terms es)

abbrev pub tms : List Tm → Tms
tms [] = NoTms
tms (e ∷ es) = MoreTms e (tms es)
