-- The code's types as plain ones.
use Rattle.std.specs.Prelude.{List, [], ◌∷◌}
use Rattle.calc_core.specs.Types.{Ty, IntTy, VarTy, TupleTy, CodeTy, ExistsTy, RefTy, Tys, NoTys, MoreTys}
use Rattle.calc_core.specs.declared.types.CoreType.{CoreType, Row_of-CoreType, end_of-CoreType, more_of-CoreType}
use Rattle.calc_core.specs.declared.types.CoreType.TheVariants.{Int, Var, Tuple', Code', Exists', Ref'}

-- the plain tree of a type
abbrev mutual
  pub tree : CoreType → Ty
  tree Int = IntTy
  tree (Var i) = VarTy i
  tree (Tuple' n row) = TupleTy (trees row)
  tree (Code' owes n row) = CodeTy owes (trees row)
  tree (Exists' p t) = ExistsTy (tree t)
  tree (Ref' p t) = RefTy (tree t)

  pub trees : {m : _} → Row_of-CoreType m → Tys
  trees end_of-CoreType = NoTys
  trees (more_of-CoreType t rest) = MoreTys (tree t) (trees rest)

-- several types, of a list
abbrev pub all_trees : List CoreType → Tys
all_trees [] = NoTys
all_trees (t ∷ ts) = MoreTys (tree t) (all_trees ts)

-- types, before others
abbrev pub joined : List CoreType → Tys → Tys
joined [] rest = rest
joined (t ∷ ts) rest = MoreTys (tree t) (joined ts rest)
