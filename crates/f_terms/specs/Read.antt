-- The plain trees of the types of the code, and places in the text.
use Rattle.idx_core.specs.declared.span.Span.{Span}
use Rattle.f_terms.specs.Ty.{Ty, TInt, TVar, TArrow, TAll, TTuple, TSome, TRef, Tys, NoTys, MoreTys}
use Rattle.f_terms.specs.Tm.{Spn}
use Rattle.f_terms.specs.declared.types.FType.{FType, Row_of-FType, end_of-FType, more_of-FType}
use Rattle.f_terms.specs.declared.types.FType.TheVariants.{Int, Var, Arrow', All', Tuple', Exists', Ref'}

-- the plain tree of a type
abbrev mutual
  pub tree : FType → Ty
  tree Int = TInt
  tree (Var i) = TVar i
  tree (Arrow' p a q b) = TArrow (tree a) (tree b)
  tree (All' p t) = TAll (tree t)
  tree (Tuple' n row) = TTuple (trees row)
  tree (Exists' p t) = TSome (tree t)
  tree (Ref' p t) = TRef (tree t)

  pub trees : {m : _} → Row_of-FType m → Tys
  trees end_of-FType = NoTys
  trees (more_of-FType t rest) = MoreTys (tree t) (trees rest)

-- a place in the text
abbrev pub place : Span → Spn
place s = (s.start, s.end)
