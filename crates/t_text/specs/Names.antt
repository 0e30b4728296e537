-- The names of a text: what each stands for.
use Rattle.std.specs.Prelude.{ℕ, suc, nat_lt, if◌then◌else◌, Bool, List, [], ◌∷◌, length, map, slice_range, bytes_eq}
use Rattle.std.specs.Prelude.{Option, Some, None}
use Rattle.std.specs.List.{list_any, position_or_len}
use Rattle.idx_core.specs.declared.span.Span.{Span}
use Rattle.idx_core.specs.Names.{Name}
use Rattle.t_types.specs.Tree.{Ty, IntTy, VarTy, CodeTy, ExistsTy, TupleTy, TFile, NoRegs, MoreRegs, TFields, NoFields}
use Rattle.t_types.specs.Tree.{MoreFields}
use Rattle.t_terms.specs.Tree.{TBase, Reg, Int, Label, Data, TValue, Plain, Pack, TInstr, Arith, Bnz, Ld, Malloc, Mov}
use Rattle.t_terms.specs.Tree.{St, Unpack, TEnd, Jmp, Halt}
use Rattle.t_terms.specs.Spanned.{SBlock, SDatum, SData, SProg}
use Rattle.t_text.specs.Raw.{RawTy, RInt, RName, RCode, RSome, RTuple, RawRegs, NoRawRegs, MoreRawRegs, RawFields}
use Rattle.t_text.specs.Raw.{NoRawFields, MoreRawFields, RawBase, RReg, RNum, RLabel, RawValue, RPlain, RPack}
use Rattle.t_text.specs.Raw.{RawInstr, RArith, RBnz, RLd, RMalloc, RMov, RSt, RUnpack, RawEnd, RJmp, RHalt, RawBlock}
use Rattle.t_text.specs.Raw.{RawDatum, RawData, RawItem, BlockItem, DataItem, blocks_in, data_in}

-- the bytes of the text at a place
abbrev pub spelled : List ℕ → Span → Name
spelled text s = slice_range text s.start s.end

-- whether a name is in a list, and its first place there
abbrev pub is_among : Name → List Name → Bool
is_among x names = list_any (bytes_eq x) names

abbrev pub index_in : Name → List Name → ℕ
index_in x names = position_or_len (bytes_eq x) names

-- the names in scope, innermost first, where a list binds more: its last name is the innermost
abbrev pub bind : List ℕ → List Span → List Name → List Name
bind text [] a = a
bind text (n ∷ ns) a = bind text ns (spelled text n ∷ a)

-- a register with its type in the file, which is kept in ascending order
abbrev pub insert_reg : ℕ → Ty → TFile → TFile
insert_reg r t NoRegs = MoreRegs r t NoRegs
insert_reg r t (MoreRegs q u file) =
    if nat_lt q r then MoreRegs q u (insert_reg r t file) else MoreRegs r t (MoreRegs q u file)

-- The tree of a type, where these names are in scope: a name is the number of its first place.
abbrev mutual
  pub type_of : List ℕ → List Name → RawTy → Ty
  type_of text a RInt = IntTy
  type_of text a (RName s) = VarTy (index_in (spelled text s) a)
  type_of text a (RCode ns rs) = CodeTy (length ns) (file_of text (bind text ns a) rs)
  type_of text a (RSome n t) = ExistsTy (type_of text (spelled text n ∷ a) t)
  type_of text a (RTuple fs) = TupleTy (fields_of text a fs)

  pub file_of : List ℕ → List Name → RawRegs → TFile
  file_of text a NoRawRegs = NoRegs
  file_of text a (MoreRawRegs r s t rs) = insert_reg r (type_of text a t) (file_of text a rs)

  pub fields_of : List ℕ → List Name → RawFields → TFields
  fields_of text a NoRawFields = NoFields
  fields_of text a (MoreRawFields t flag fs) = MoreFields (type_of text a t) flag (fields_of text a fs)

abbrev pub types_of : List ℕ → List Name → List RawTy → List Ty
types_of text a ts = map (type_of text a) ts

-- the labels of a program, each with the block or the data tuple that it names
abbrev pub Labels : Type 0
Labels = List (Name × TBase)

-- what a label names: where several are equal, what the first of them does
abbrev pub named_by : Name → Labels → Option TBase
named_by x [] = None
named_by x (l ∷ ls) = if bytes_eq x l.0 then Some l.1 else named_by x ls

-- a label that names nothing is a fault of names, and then it does not matter what is put for it
abbrev pub or_first : Option TBase → TBase
or_first (Some b) = b
or_first None = Label 0

-- The rest of a program, where these are its labels.
abbrev pub base_of : List ℕ → Labels → RawBase → TBase
base_of text ls (RReg r) = Reg r
base_of text ls (RNum z) = Int z
base_of text ls (RLabel s) = or_first (named_by (spelled text s) ls)

abbrev pub value_of : List ℕ → Labels → List Name → RawValue → TValue
value_of text ls a (RPlain b ts) = Plain (base_of text ls b) (types_of text a ts)
value_of text ls a (RPack t v s) = Pack (type_of text a t) (value_of text ls a v) (type_of text a s)

abbrev pub instr_of : List ℕ → Labels → List Name → RawInstr → TInstr
instr_of text ls a (RArith op rd rs v) = Arith op rd rs (value_of text ls a v)
instr_of text ls a (RBnz r v) = Bnz r (value_of text ls a v)
instr_of text ls a (RLd rd rs i) = Ld rd rs i
instr_of text ls a (RMalloc rd ts) = Malloc rd (types_of text a ts)
instr_of text ls a (RMov rd v) = Mov rd (value_of text ls a v)
instr_of text ls a (RSt rd i rs) = St rd i rs
instr_of text ls a (RUnpack n rd v) = Unpack rd (value_of text ls a v)

-- an unpack binds a name in the rest of its block
abbrev pub scope_after : List ℕ → RawInstr → List Name → List Name
scope_after text (RUnpack n rd v) a = spelled text n ∷ a
scope_after text _ a = a

abbrev pub scope_after_all : List ℕ → List (RawInstr × Span) → List Name → List Name
scope_after_all text [] a = a
scope_after_all text (i ∷ is) a = scope_after_all text is (scope_after text i.0 a)

abbrev pub body_of : List ℕ → Labels → List Name → List (RawInstr × Span) → List (TInstr × Span)
body_of text ls a [] = []
body_of text ls a (i ∷ is) = (instr_of text ls a i.0, i.1) ∷ body_of text ls (scope_after text i.0 a) is

abbrev pub end_of : List ℕ → Labels → List Name → RawEnd → TEnd
end_of text ls a (RJmp v) = Jmp (value_of text ls a v)
end_of text ls a RHalt = Halt

abbrev pub block_of : List ℕ → Labels → RawBlock → SBlock
block_of text ls b = record {
  name = b.name;
  owes = length b.names;
  file = file_of text (bind text b.names []) b.file;
  body = body_of text ls (bind text b.names []) b.body;
  last = end_of text ls (scope_after_all text b.body (bind text b.names [])) b.last.0;
  last_span = b.last.1;
}

-- a data tuple stands under no type names
abbrev pub datum_of : List ℕ → Labels → RawDatum → SDatum
datum_of text ls x = record { value = value_of text ls [] x.value; ty = type_of text [] x.ty; span = x.place }

abbrev pub data_of : List ℕ → Labels → RawData → SData
data_of text ls x = record { name = x.name; fields = map (datum_of text ls) x.fields }

-- the labels of items in turn, with k blocks and d data tuples before them: blocks and data are numbered apart
abbrev pub item_labels : List ℕ → ℕ → ℕ → List RawItem → Labels
item_labels text k d [] = []
item_labels text k d (BlockItem b ∷ xs) = (spelled text b.name, Label k) ∷ item_labels text (suc k) d xs
item_labels text k d (DataItem x ∷ xs) = (spelled text x.name, Data d) ∷ item_labels text k (suc d) xs

abbrev pub labels_of : List ℕ → List RawItem → Labels
labels_of text xs = item_labels text 0 0 xs

-- the blocks and the data, each in the order of the text
abbrev pub program_of : List ℕ → List RawItem → SProg
program_of text xs = record {
  blocks = map (block_of text (labels_of text xs)) (blocks_in xs);
  heap = map (data_of text (labels_of text xs)) (data_in xs);
}
