-- The tree of a type of the code.
use Rattle.f_grammar.specs.Raw.{RawTy, RInt, RName, RTuple, RArrow, RAll, RSome, RRef, RawTys, NoRawTys, MoreRawTys}
use Rattle.f_grammar.specs.declared.raw.RawType.{RawType, Row_of-RawType, end_of-RawType, more_of-RawType}
use Rattle.f_grammar.specs.declared.raw.RawType.TheVariants.{Int, Name, Arrow', All', Exists', Ref', Tuple'}

abbrev mutual
  pub type_of : RawType → RawTy
  type_of Int = RInt
  type_of (Name s) = RName s
  type_of (Arrow' p a q b) = RArrow (type_of a) (type_of b)
  type_of (All' n p t) = RAll n (type_of t)
  type_of (Exists' n p t) = RSome n (type_of t)
  type_of (Ref' p t) = RRef (type_of t)
  type_of (Tuple' n row) = RTuple (types_of row)

  pub types_of : {m : _} → Row_of-RawType m → RawTys
  types_of end_of-RawType = NoRawTys
  types_of (more_of-RawType t rest) = MoreRawTys (type_of t) (types_of rest)
