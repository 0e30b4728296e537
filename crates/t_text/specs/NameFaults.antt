-- What is wrong with the names and registers of a text, in its order.
use Rattle.std.specs.Prelude.{ℕ, nat_eq, not, is_none, if◌then◌else◌, Bool, List, [], ◌∷◌, ◌++◌}
use Rattle.std.specs.List.{list_any}
use Rattle.idx_core.specs.declared.span.Span.{Span}
use Rattle.idx_core.specs.Names.{Name}
use Rattle.t_terms.specs.declared.fault.TCode.{TCode}
use Rattle.t_terms.specs.declared.fault.TCode.TheVariants.{T04, T05, T06, T07}
use Rattle.t_text.specs.Raw.{RawTy, RInt, RName, RCode, RSome, RTuple, RawRegs, NoRawRegs, MoreRawRegs, RawFields}
use Rattle.t_text.specs.Raw.{NoRawFields, MoreRawFields, RawBase, RReg, RNum, RLabel, RawValue, RPlain, RPack}
use Rattle.t_text.specs.Raw.{RawInstr, RArith, RBnz, RLd, RMalloc, RMov, RSt, RUnpack, RawEnd, RJmp, RHalt, RawBlock}
use Rattle.t_text.specs.Raw.{RawDatum, RawItem, BlockItem, DataItem, item_name}
use Rattle.t_text.specs.Names.{Labels, spelled, is_among, bind, named_by, scope_after, scope_after_all, labels_of}

-- a fault at a place, where there is one
abbrev pub only_if : Bool → TCode → Span → List (TCode × Span)
only_if b c s = if b then (c, s) ∷ [] else []

-- a type name without a binder around it, and a register that stood in the file before
abbrev mutual
  pub type_faults : List ℕ → List Name → RawTy → List (TCode × Span)
  type_faults text a RInt = []
  type_faults text a (RName s) = only_if (not (is_among (spelled text s) a)) T06 s
  type_faults text a (RCode ns rs) = regs_faults text (bind text ns a) [] rs
  type_faults text a (RSome n t) = type_faults text (spelled text n ∷ a) t
  type_faults text a (RTuple fs) = fields_faults text a fs

  pub regs_faults : List ℕ → List Name → List ℕ → RawRegs → List (TCode × Span)
  regs_faults text a before NoRawRegs = []
  regs_faults text a before (MoreRawRegs r s t rs) =
      only_if (list_any (nat_eq r) before) T07 s ++ (type_faults text a t ++ regs_faults text a (r ∷ before) rs)

  pub fields_faults : List ℕ → List Name → RawFields → List (TCode × Span)
  fields_faults text a NoRawFields = []
  fields_faults text a (MoreRawFields t flag fs) = type_faults text a t ++ fields_faults text a fs

abbrev pub types_faults : List ℕ → List Name → List RawTy → List (TCode × Span)
types_faults text a [] = []
types_faults text a (t ∷ ts) = type_faults text a t ++ types_faults text a ts

-- a label that names nothing
abbrev pub base_faults : List ℕ → Labels → RawBase → List (TCode × Span)
base_faults text ls (RReg r) = []
base_faults text ls (RNum z) = []
base_faults text ls (RLabel s) = only_if (is_none (named_by (spelled text s) ls)) T05 s

abbrev pub value_faults : List ℕ → Labels → List Name → RawValue → List (TCode × Span)
value_faults text ls a (RPlain b ts) = base_faults text ls b ++ types_faults text a ts
value_faults text ls a (RPack t v s) = type_faults text a t ++ (value_faults text ls a v ++ type_faults text a s)

abbrev pub instr_faults : List ℕ → Labels → List Name → RawInstr → List (TCode × Span)
instr_faults text ls a (RArith op rd rs v) = value_faults text ls a v
instr_faults text ls a (RBnz r v) = value_faults text ls a v
instr_faults text ls a (RLd rd rs i) = []
instr_faults text ls a (RMalloc rd ts) = types_faults text a ts
instr_faults text ls a (RMov rd v) = value_faults text ls a v
instr_faults text ls a (RSt rd i rs) = []
instr_faults text ls a (RUnpack n rd v) = value_faults text ls a v

abbrev pub body_faults : List ℕ → Labels → List Name → List (RawInstr × Span) → List (TCode × Span)
body_faults text ls a [] = []
body_faults text ls a (i ∷ is) = instr_faults text ls a i.0 ++ body_faults text ls (scope_after text i.0 a) is

abbrev pub end_faults : List ℕ → Labels → List Name → RawEnd → List (TCode × Span)
end_faults text ls a (RJmp v) = value_faults text ls a v
end_faults text ls a RHalt = []

abbrev pub block_faults : List ℕ → Labels → RawBlock → List (TCode × Span)
block_faults text ls b =
    regs_faults text (bind text b.names []) [] b.file ++
    (body_faults text ls (bind text b.names []) b.body
    ++ end_faults text ls (scope_after_all text b.body (bind text b.names [])) b.last.0)

-- a data tuple stands under no type names
abbrev pub datum_faults : List ℕ → Labels → RawDatum → List (TCode × Span)
datum_faults text ls x = value_faults text ls [] x.value ++ type_faults text [] x.ty

abbrev pub data_faults : List ℕ → Labels → List RawDatum → List (TCode × Span)
data_faults text ls [] = []
data_faults text ls (x ∷ xs) = datum_faults text ls x ++ data_faults text ls xs

abbrev pub item_faults : List ℕ → Labels → RawItem → List (TCode × Span)
item_faults text ls (BlockItem b) = block_faults text ls b
item_faults text ls (DataItem x) = data_faults text ls x.fields

-- a label that an item before has
abbrev pub items_faults : List ℕ → Labels → List Name → List RawItem → List (TCode × Span)
items_faults text ls before [] = []
items_faults text ls before (x ∷ xs) =
    only_if (is_among (spelled text (item_name x)) before) T04 (item_name x)
    ++ (item_faults text ls x ++ items_faults text ls (spelled text (item_name x) ∷ before) xs)

abbrev pub program_faults : List ℕ → List RawItem → List (TCode × Span)
program_faults text xs = items_faults text (labels_of text xs) [] xs
