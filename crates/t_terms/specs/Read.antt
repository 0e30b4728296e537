-- The plain trees of the program's values.
use Rattle.std.specs.Prelude.{List, [], ◌∷◌}
use Rattle.idx_core.specs.declared.span.Span.{Span}
use Rattle.t_types.specs.Read.{tree, file, types}
use Rattle.t_terms.specs.Tree.{TBase, Reg, Int, Label, Data, TValue, Plain, Pack, TInstr, Arith, Bnz, Ld, Malloc, Mov}
use Rattle.t_terms.specs.Tree.{St, Unpack, TEnd, Jmp, Halt, TBlock, TData, TProg}
use Rattle.t_terms.specs.Spanned.{SBlock, SDatum, SData, SProg, plain, plain_blocks, plain_heap, plain_program}
use Rattle.t_terms.specs.declared.value.Base.{Base}
use Rattle.t_terms.specs.declared.value.Base.TheVariants as B
use Rattle.t_terms.specs.declared.value.Value.{Value}
use Rattle.t_terms.specs.declared.value.Value.TheVariants as V
use Rattle.t_terms.specs.declared.instr.Instr.{Instr}
use Rattle.t_terms.specs.declared.instr.Instr.TheVariants as I
use Rattle.t_terms.specs.declared.instr.End.{End}
use Rattle.t_terms.specs.declared.instr.End.TheVariants as E
use Rattle.t_terms.specs.declared.block.Block.{Block}
use Rattle.t_terms.specs.declared.data.Data.{Data as DataItem}
use Rattle.t_types.specs.declared.types.TType.{TType}

abbrev pub base : Base → TBase
base (B.Reg r) = Reg r
base (B.Int i) = Int i
base (B.Label l) = Label l
base (B.Data d) = Data d

abbrev pub value : Value → TValue
value (V.Plain b ts) = Plain (base b) (types ts.items)
value (V.Pack' hidden p inner shape) = Pack (tree hidden.value) (value inner) (tree shape.value)

abbrev pub instr : Instr → TInstr
instr (I.Arith op rd rs v) = Arith op rd rs (value v)
instr (I.Bnz r v) = Bnz r (value v)
instr (I.Ld rd rs i) = Ld rd rs i
instr (I.Malloc rd ts) = Malloc rd (types ts.items)
instr (I.Mov rd v) = Mov rd (value v)
instr (I.St rd i rs) = St rd i rs
instr (I.Unpack rd v) = Unpack rd (value v)

abbrev pub end_of : End → TEnd
end_of (E.Jmp v) = Jmp (value v)
end_of E.Halt = Halt

abbrev pub body : List (Instr × Span) → List (TInstr × Span)
body [] = []
body (x ∷ xs) = (instr x.0, x.1) ∷ body xs

-- a block with its places, and without
abbrev pub spanned : Block → SBlock
spanned b = record {
  name = b.name;
  owes = b.owes;
  file = file b.regs.regs.items;
  body = body b.body.items;
  last = end_of b.end;
  last_span = b.end_span;
}

abbrev pub block : Block → TBlock
block b = plain (spanned b)

abbrev pub spanned_blocks : List Block → List SBlock
spanned_blocks [] = []
spanned_blocks (b ∷ bs) = spanned b ∷ spanned_blocks bs

-- a field of a data tuple, with the place of its value
abbrev pub datum : Value × TType × Span → SDatum
datum x = record { value = value x.0; ty = tree x.1; span = x.2 }

abbrev pub data_fields : List (Value × TType × Span) → List SDatum
data_fields [] = []
data_fields (x ∷ xs) = datum x ∷ data_fields xs

abbrev pub spanned_data : DataItem → SData
spanned_data x = record { name = x.name; fields = data_fields x.fields.items }

abbrev pub spanned_heap : List DataItem → List SData
spanned_heap [] = []
spanned_heap (x ∷ xs) = spanned_data x ∷ spanned_heap xs

-- the plain trees of blocks, and of data
abbrev pub blocks_of : List Block → List TBlock
blocks_of bs = plain_blocks (spanned_blocks bs)

abbrev pub data_of : List DataItem → List TData
data_of xs = plain_heap (spanned_heap xs)

-- blocks and data as a program with its places, and without
abbrev pub spanned_parts : List Block → List DataItem → SProg
spanned_parts bs xs = record { blocks = spanned_blocks bs; heap = spanned_heap xs }

abbrev pub parts : List Block → List DataItem → TProg
parts bs xs = plain_program (spanned_parts bs xs)
