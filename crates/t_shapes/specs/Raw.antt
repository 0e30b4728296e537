-- The trees of what is read, before names are resolved.
use Rattle.std.specs.Prelude.{Bool, true, false, not, List, map}
use Rattle.idx_core.specs.declared.span.Span.{Span}
use Rattle.t_text.specs.declared.token.Kind.{Kind}
use Rattle.t_text.specs.declared.token.Kind.TheVariants as k
use Rattle.t_text.specs.Raw as tree
use Rattle.t_text.specs.Raw.{RReg, RNum, RLabel, RPlain, RPack, RArith, RBnz, RLd, RMalloc, RMov, RSt, RUnpack, RJmp}
use Rattle.t_text.specs.Raw.{RHalt, BlockItem, DataItem}
use Rattle.t_shapes.specs.RawTypes.{raw, raw_file}
use Rattle.t_shapes.specs.declared.raw.RawBase.{RawBase}
use Rattle.t_shapes.specs.declared.raw.RawBase.TheVariants as B
use Rattle.t_shapes.specs.declared.raw.RawValue.{RawValue}
use Rattle.t_shapes.specs.declared.raw.RawValue.TheVariants as V
use Rattle.t_shapes.specs.declared.raw.RawPack.{RawPack}
use Rattle.t_shapes.specs.declared.raw.RawInstr.{RawInstr}
use Rattle.t_shapes.specs.declared.raw.RawInstr.TheVariants as I
use Rattle.t_shapes.specs.declared.raw.RawEnd.{RawEnd}
use Rattle.t_shapes.specs.declared.raw.RawEnd.TheVariants as E
use Rattle.t_shapes.specs.declared.raw.RawBlock.{RawBlock}
use Rattle.t_shapes.specs.declared.raw.RawDatum.{RawDatum}
use Rattle.t_shapes.specs.declared.raw.RawData.{RawData}
use Rattle.t_shapes.specs.declared.raw.RawItem.{RawItem}
use Rattle.t_shapes.specs.declared.raw.RawItem.TheVariants as It

-- whether a value, of data or not, may begin with a token of this kind that is no package
abbrev pub is_base : Bool → Kind → Bool
is_base of_data (k.Register r) = not of_data
is_base of_data (k.Plain z) = true
is_base of_data (k.Negative z) = true
is_base of_data k.Name = true
is_base of_data _ = false

abbrev pub raw_base : RawBase → tree.RawBase
raw_base (B.Reg r) = RReg r
raw_base (B.Num z) = RNum z
raw_base (B.Label s) = RLabel s

abbrev pub raw_value : RawValue → tree.RawValue
raw_value (V.Plain b ts) = RPlain (raw_base b) (map raw ts.items)
raw_value (V.Pack' p hidden inner shape) = RPack (raw hidden) (raw_value inner) (raw shape)

-- a package by itself
abbrev pub raw_pack : RawPack → tree.RawValue
raw_pack p = RPack (raw p.hidden) (raw_value p.inner) (raw p.shape)

abbrev pub raw_instr : RawInstr → tree.RawInstr
raw_instr (I.Arith op rd rs v) = RArith op rd rs (raw_value v)
raw_instr (I.Bnz r v) = RBnz r (raw_value v)
raw_instr (I.Ld rd rs i) = RLd rd rs i
raw_instr (I.Malloc rd ts) = RMalloc rd (map raw ts.items)
raw_instr (I.Mov rd v) = RMov rd (raw_value v)
raw_instr (I.St rd i rs) = RSt rd i rs
raw_instr (I.Unpack n rd v) = RUnpack n rd (raw_value v)

abbrev pub raw_step : RawInstr × Span → tree.RawInstr × Span
raw_step x = (raw_instr x.0, x.1)

abbrev pub raw_end : RawEnd → tree.RawEnd
raw_end (E.Jmp v) = RJmp (raw_value v)
raw_end E.Halt = RHalt

abbrev pub raw_last : RawEnd × Span → tree.RawEnd × Span
raw_last x = (raw_end x.0, x.1)

abbrev pub raw_block : RawBlock → tree.RawBlock
raw_block b = record {
  name = b.name;
  names = b.names.items;
  file = raw_file b.file;
  body = map raw_step b.body.items;
  last = raw_last b.last;
}

abbrev pub raw_datum : RawDatum → tree.RawDatum
raw_datum x = record { value = raw_value x.value; place = x.place; ty = raw x.ty }

abbrev pub raw_data : RawData → tree.RawData
raw_data x = record { name = x.name; fields = map raw_datum x.fields.items }

abbrev pub raw_item : RawItem → tree.RawItem
raw_item (It.Block b) = BlockItem (raw_block b)
raw_item (It.Data x) = DataItem (raw_data x)

abbrev pub raw_items : List RawItem → List tree.RawItem
raw_items xs = map raw_item xs

-- whether an item is a block
abbrev pub is_block : tree.RawItem → Bool
is_block (BlockItem b) = true
is_block (DataItem x) = false
