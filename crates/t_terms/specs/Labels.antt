-- Types of labels.
use Rattle.std.specs.Prelude.{true, map}
use Rattle.t_types.specs.Tree.{Ty, CodeTy, TupleTy, TFields}
use Rattle.t_types.specs.Fields.{all_flagged}
use Rattle.t_terms.specs.Tree.{TBlock, TDatum, TData}

-- a label is code that owes what its block owes
abbrev pub label_type : TBlock → Ty
label_type b = CodeTy b.owes b.file

-- a data label is a tuple of the types that are written for its fields, all of them initialised
abbrev pub data_fields : TData → TFields
data_fields xs = all_flagged true (map (λ (x : TDatum). x.ty) xs)

abbrev pub data_type : TData → Ty
data_type x = TupleTy (data_fields x)
