-- That types which stand beside a term are its own is a proposition: a type's invariant may keep it.
use Rattle.f_terms.specs.Ty.{Tys, MoreTys}
use Rattle.f_terms.specs.Typing.{raised, in_fix, in_open}
use Rattle.f_terms.specs.Noted.{Noted, EVar, ENum, EFix, EApp, EGen, EInst, ETuple, EProj, EArith, EIf, ELet, EPack}
use Rattle.f_terms.specs.Noted.{EOpen, ERef, EDeref, EAssign, Noteds}
use Rattle.f_terms.specs.Noted.{NoNoteds, MoreNoteds, bare, type_of, Beside, AllBeside}
use Rattle.f_terms.specs.Props.{type_set}

mutual
  pub beside_prop : (e : Noted) (g : Tys) → IsProp (Beside e g)
  beside_prop (EVar i) g = hlevel
  beside_prop (ENum n) g = hlevel
  beside_prop (EFix arg res e) g = beside_prop e (in_fix arg res g)
  beside_prop (EApp f x t) g = hlevel (type_set, beside_prop f g, beside_prop x g)
  beside_prop (EGen e t) g = hlevel (type_set, beside_prop e (raised g))
  beside_prop (EInst e s t) g = hlevel (type_set, beside_prop e g)
  beside_prop (ETuple es t) g = hlevel (type_set, all_beside_prop es g)
  beside_prop (EProj i e t) g = hlevel (type_set, beside_prop e g)
  beside_prop (EArith op a b) g = hlevel (beside_prop a g, beside_prop b g)
  beside_prop (EIf c a b t) g = hlevel (type_set, beside_prop c g, beside_prop a g, beside_prop b g)
  beside_prop (ELet a b) g = hlevel (beside_prop a g, beside_prop b (MoreTys (type_of (bare a) g) g))
  beside_prop (EPack h e s) g = beside_prop e g
  beside_prop (EOpen a b t) g = hlevel (type_set, beside_prop a g, beside_prop b (in_open t g))
  beside_prop (ERef e t) g = hlevel (type_set, beside_prop e g)
  beside_prop (EDeref e t) g = hlevel (type_set, beside_prop e g)
  beside_prop (EAssign a b) g = hlevel (beside_prop a g, beside_prop b g)

  all_beside_prop : (es : Noteds) (g : Tys) → IsProp (AllBeside es g)
  all_beside_prop NoNoteds g = hlevel
  all_beside_prop (MoreNoteds e es) g = hlevel (beside_prop e g, all_beside_prop es g)
