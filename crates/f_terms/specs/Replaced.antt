-- A term without its packages: each pack is replaced by its part, and each open by a let.
use Rattle.f_terms.specs.Tm.{Term, MVar, MNum, MFix, MApp, MGen, MInst, MTuple, MProj, MArith, MIf0, MLet, MPack, MOpen}
use Rattle.f_terms.specs.Tm.{MRef, MDeref, MAssign, Terms, NoTerms, MoreTerms}
use Rattle.f_terms.specs.Eval.{Val, VInt, VTup, VFun, VSus, VCell, Vals, Empty, And, Result, Gives, Spent, Stuck}

abbrev mutual
  pub replaced : Term → Term
  replaced (MVar i) = MVar i
  replaced (MNum n) = MNum n
  replaced (MFix arg res e) = MFix arg res (replaced e)
  replaced (MApp f x) = MApp (replaced f) (replaced x)
  replaced (MGen e) = MGen (replaced e)
  replaced (MInst e t) = MInst (replaced e) t
  replaced (MTuple es) = MTuple (replaced_all es)
  replaced (MProj i e) = MProj i (replaced e)
  replaced (MArith op a b) = MArith op (replaced a) (replaced b)
  replaced (MIf0 c a b) = MIf0 (replaced c) (replaced a) (replaced b)
  replaced (MLet a b) = MLet (replaced a) (replaced b)
  replaced (MPack h e s) = replaced e
  replaced (MOpen a b) = MLet (replaced a) (replaced b)
  replaced (MRef e) = MRef (replaced e)
  replaced (MDeref e) = MDeref (replaced e)
  replaced (MAssign a b) = MAssign (replaced a) (replaced b)

  pub replaced_all : Terms → Terms
  replaced_all NoTerms = NoTerms
  replaced_all (MoreTerms e es) = MoreTerms (replaced e) (replaced_all es)

-- the replacement made in every body that a value holds
abbrev mutual
  pub value_replaced : Val → Val
  value_replaced (VInt n) = VInt n
  value_replaced (VTup vs) = VTup (values_replaced vs)
  value_replaced (VFun env body) = VFun (values_replaced env) (replaced body)
  value_replaced (VSus env body) = VSus (values_replaced env) (replaced body)
  value_replaced (VCell p) = VCell p

  pub values_replaced : Vals → Vals
  values_replaced Empty = Empty
  values_replaced (And v vs) = And (value_replaced v) (values_replaced vs)

abbrev pub result_replaced : Result → Result
result_replaced (Gives v left st) = Gives (value_replaced v) left (values_replaced st)
result_replaced Spent = Spent
result_replaced Stuck = Stuck
