-- The plain trees of the program's types.
use Rattle.std.specs.Prelude.{Bool, List, [], ◌∷◌, Option, Some, None}
use Rattle.a_terms.specs.Tree as a
use Rattle.a_terms.specs.declared.types.AType.{AType, Row_of-AType-Tuple-0-2 as FieldRow}
use Rattle.a_terms.specs.declared.types.AType.{end_of-AType-Tuple-0-2 as end_of_fields}
use Rattle.a_terms.specs.declared.types.AType.{more_of-AType-Tuple-0-2 as more_of_fields, Row_of-AType, end_of-AType}
use Rattle.a_terms.specs.declared.types.AType.{more_of-AType}
use Rattle.a_terms.specs.declared.types.AType.TheVariants as A

abbrev mutual
  pub atree : AType → a.ATy
  atree A.Int = a.AInt
  atree (A.Var i) = a.AVar i
  atree (A.Tuple' n row) = a.ATuple (afield_row row)
  atree (A.Code' owes n row) = a.ACode owes (arow row)
  atree (A.Exists' p t) = a.AExists (atree t)

  pub arow : {n : _} → Row_of-AType n → a.ATys
  arow end_of-AType = a.NoATys
  arow (more_of-AType t rest) = a.MoreATys (atree t) (arow rest)

  pub afield_row : {n : _} → FieldRow n → a.AFields
  afield_row end_of_fields = a.NoAFields
  afield_row (more_of_fields t flag rest) = a.MoreAFields (atree t) flag (afield_row rest)

abbrev pub atrees : List AType → a.ATys
atrees [] = a.NoATys
atrees (t ∷ ts) = a.MoreATys (atree t) (atrees ts)

abbrev pub afields : List (AType × Bool) → a.AFields
afields [] = a.NoAFields
afields (t ∷ ts) = a.MoreAFields (atree t.0) t.1 (afields ts)

-- a type, if there is one
abbrev pub maybe : Option AType → Option a.ATy
maybe None = None
maybe (Some t) = Some (atree t)
