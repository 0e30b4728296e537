-- The types of a program's labels.
use Rattle.std.specs.Prelude.{List, map}
use Rattle.idx_core.specs.declared.span.Span.{Span}
use Rattle.t_types.specs.Tree.{Ty, IntTy, CodeTy}
use Rattle.t_types.specs.Read.{tree, file}
use Rattle.t_types.specs.declared.types.TType.{TType}
use Rattle.t_terms.specs.Read.{spanned_data}
use Rattle.t_terms.specs.Spanned.{plain_fields}
use Rattle.t_terms.specs.declared.value.Value.{Value}
use Rattle.t_terms.specs.declared.block.Block.{Block}
use Rattle.t_terms.specs.declared.data.Data.{Data}
use Rattle.t_terms.specs.declared.program.TProgram.{TProgram}
use Rattle.t_terms.specs.Labels.{data_type}
use Rattle.t_intern.specs.Grown.{IsNumber, AreNumbers}
use Rattle.t_known.specs.declared.labels.Labels.{Labels}

-- a block's label is code that owes what the block owes
abbrev pub code_type : Block → Ty
code_type b = CodeTy b.owes (file b.regs.regs.items)

abbrev pub code_types : List Block → List Ty
code_types bs = map code_type bs

-- a data label is a tuple
abbrev pub tuple_type : Data → Ty
tuple_type x = data_type (plain_fields (spanned_data x).fields)

abbrev pub tuple_types : List Data → List Ty
tuple_types xs = map tuple_type xs

-- a word of data, with the type that is written for it and its place
abbrev pub Field : Type 0
Field = Value × TType × Span

abbrev pub field_type : Field → Ty
field_type x = tree x.1

abbrev pub field_types : List Field → List Ty
field_types xs = map field_type xs

-- integers and the labels have these numbers
pub record AreLabels (ts : List Ty) (p : TProgram) (l : Labels) : Type 0 where
  pub int : IsNumber ts IntTy l.int
  pub blocks : AreNumbers ts (code_types p.blocks.items) l.blocks.items
  pub tuples : AreNumbers ts (tuple_types p.heap.items) l.tuples.items
