-- Programs before names are resolved: a label and a type name are the places where they stand.
use Rattle.std.specs.Prelude.{ℕ, ℤ, Bool, List, [], ◌∷◌}
use Rattle.idx_core.specs.declared.span.Span.{Span}
use Rattle.idx_core.specs.declared.arith.Op.{Op}

mutual
  pub data RawTy : Type 0 where
    RInt : RawTy
    RName : Span → RawTy
    -- the names that are bound, the file
    RCode : List Span → RawRegs → RawTy
    -- the name that is bound, the type under it
    RSome : Span → RawTy → RawTy
    RTuple : RawFields → RawTy

  -- registers, each with the place of its token and its type, in the order of the text
  pub data RawRegs : Type 0 where
    NoRawRegs : RawRegs
    MoreRawRegs : ℕ → Span → RawTy → RawRegs → RawRegs

  -- types and flags
  pub data RawFields : Type 0 where
    NoRawFields : RawFields
    MoreRawFields : RawTy → Bool → RawFields → RawFields

-- a register of a file, and a field of a tuple
pub record RawReg : Type 0 where
  pub reg : ℕ
  pub place : Span
  pub ty : RawTy

pub record RawField : Type 0 where
  pub ty : RawTy
  pub flag : Bool

abbrev pub raw_regs : List RawReg → RawRegs
raw_regs [] = NoRawRegs
raw_regs (r ∷ rs) = MoreRawRegs r.reg r.place r.ty (raw_regs rs)

abbrev pub raw_fields : List RawField → RawFields
raw_fields [] = NoRawFields
raw_fields (f ∷ fs) = MoreRawFields f.ty f.flag (raw_fields fs)

pub data RawBase : Type 0 where
  RReg : ℕ → RawBase
  RNum : ℤ → RawBase
  RLabel : Span → RawBase

pub data RawValue : Type 0 where
  RPlain : RawBase → List RawTy → RawValue
  -- the hidden type, the value, the type of the package
  RPack : RawTy → RawValue → RawTy → RawValue

pub data RawInstr : Type 0 where
  RArith : Op → ℕ → ℕ → RawValue → RawInstr
  RBnz : ℕ → RawValue → RawInstr
  RLd : ℕ → ℕ → ℕ → RawInstr
  RMalloc : ℕ → List RawTy → RawInstr
  RMov : ℕ → RawValue → RawInstr
  RSt : ℕ → ℕ → ℕ → RawInstr
  -- the name that is bound in the rest, the register, the value
  RUnpack : Span → ℕ → RawValue → RawInstr

pub data RawEnd : Type 0 where
  RJmp : RawValue → RawEnd
  RHalt : RawEnd

-- a block: its label, the names that it binds, its file, its instructions and its end, each with its place
pub record RawBlock : Type 0 where
  pub name : Span
  pub names : List Span
  pub file : RawRegs
  pub body : List (RawInstr × Span)
  pub last : RawEnd × Span

-- a field of a data tuple: its value with the value's place, and the type that is written for it
pub record RawDatum : Type 0 where
  pub value : RawValue
  pub place : Span
  pub ty : RawTy

-- a data tuple: its label, and its fields
pub record RawData : Type 0 where
  pub name : Span
  pub fields : List RawDatum

-- what a text holds: blocks and data tuples, in any order
pub data RawItem : Type 0 where
  BlockItem : RawBlock → RawItem
  DataItem : RawData → RawItem

-- the label of an item
abbrev pub item_name : RawItem → Span
item_name (BlockItem b) = b.name
item_name (DataItem x) = x.name

-- the blocks of items, and their data, each in the order of the text
abbrev pub blocks_in : List RawItem → List RawBlock
blocks_in [] = []
blocks_in (BlockItem b ∷ xs) = b ∷ blocks_in xs
blocks_in (DataItem x ∷ xs) = blocks_in xs

abbrev pub data_in : List RawItem → List RawData
data_in [] = []
data_in (BlockItem b ∷ xs) = data_in xs
data_in (DataItem x ∷ xs) = x ∷ data_in xs

-- blocks alone as items
abbrev pub block_items : List RawBlock → List RawItem
block_items [] = []
block_items (b ∷ bs) = BlockItem b ∷ block_items bs

-- a part of a text: its tree, and where its last token ends
pub record Piece (A : Type 0) : Type 0 where
  pub tree : A
  pub end : ℕ

abbrev pub ending : {A : Type 0} → A → ℕ → Piece A
ending t e = record { tree = t; end = e }

-- from the start of a place up to an end
abbrev pub up_to : Span → ℕ → Span
up_to s e = record { start = s.start; end = e }
