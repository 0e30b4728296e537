-- The one way to put types beside a term: in tail place, where conversion doesn't read them, they are left out.
use Rattle.std.specs.Prelude.{Bool, true, false}
use Rattle.f_terms.specs.Ty.{Ty, TInt, Tys, NoTys, MoreTys}
use Rattle.f_terms.specs.Tm.{Term, MVar, MNum, MFix, MApp, MGen, MInst, MTuple, MProj, MArith, MIf0, MLet, MPack}
use Rattle.f_terms.specs.Tm.{MOpen, MRef, MDeref, MAssign, Terms, NoTerms, MoreTerms}
use Rattle.f_terms.specs.Typing.{raised, in_fix, in_open}
use Rattle.f_terms.specs.Noted.{Noted, EVar, ENum, EFix, EApp, EGen, EInst, ETuple, EProj, EArith, EIf, ELet, EPack}
use Rattle.f_terms.specs.Noted.{EOpen, ERef, EDeref, EAssign, Noteds, NoNoteds, MoreNoteds, opened_of, type_of}
use Rattle.k_terms.specs.K.{KTm}
use Rattle.k_laws.specs.Cps.{cps_of}

-- in tail place no type is kept
abbrev pub kept : Bool → Ty → Ty
kept true t = TInt
kept false t = t

abbrev mutual
  pub annotate : Bool → Term → Tys → Noted
  annotate tail (MVar i) g = EVar i
  annotate tail (MNum n) g = ENum n
  annotate tail (MFix arg res e) g = EFix arg res (annotate true e (in_fix arg res g))
  annotate tail (MApp f x) g = EApp (annotate false f g) (annotate false x g) (kept tail (type_of (MApp f x) g))
  annotate tail (MGen e) g = EGen (annotate true e (raised g)) (type_of e (raised g))
  annotate tail (MInst e s) g = EInst (annotate false e g) s (kept tail (type_of (MInst e s) g))
  annotate tail (MTuple es) g = ETuple (annotate_all es g) (type_of (MTuple es) g)
  annotate tail (MProj i e) g = EProj i (annotate false e g) (type_of (MProj i e) g)
  annotate tail (MArith op a b) g = EArith op (annotate false a g) (annotate false b g)
  annotate tail (MIf0 c a b) g =
      EIf (annotate false c g) (annotate true a g) (annotate true b g) (kept tail (type_of a g))
  annotate tail (MLet a b) g = ELet (annotate false a g) (annotate tail b (MoreTys (type_of a g) g))
  annotate tail (MPack h e s) g = EPack h (annotate false e g) s
  annotate tail (MOpen a b) g =
      EOpen (annotate false a g) (annotate tail b (in_open (opened_of (type_of a g)) g)) (opened_of (type_of a g))
  annotate tail (MRef e) g = ERef (annotate false e g) (type_of (MRef e) g)
  annotate tail (MDeref e) g = EDeref (annotate false e g) (type_of (MDeref e) g)
  annotate tail (MAssign a b) g = EAssign (annotate false a g) (annotate false b g)

  pub annotate_all : Terms → Tys → Noteds
  annotate_all NoTerms g = NoNoteds
  annotate_all (MoreTerms e es) g = MoreNoteds (annotate false e g) (annotate_all es g)

-- the conversion of a program
abbrev pub cps_term : Term → KTm
cps_term e = cps_of (annotate false e NoTys)
