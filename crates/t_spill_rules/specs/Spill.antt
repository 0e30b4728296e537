-- The bound on registers. Registers up to m stay as they are, and six more, m + 1 to m + 6, are the spilled program's
-- own. The words of the higher ones stand in two tuples: a frame, which holds those that were known where it was made,
-- in the order of the file, and slots, one for each definition of a higher register since then. Labels are one further
-- on, in data too.
use Rattle.std.specs.Prelude.{ℕ, zero, suc, ◌+◌, ◌-◌, ◌≤◌, min, nat_eq, nat_lt, cond, Bool, true, false, List, [], ◌∷◌}
use Rattle.std.specs.Prelude.{length, map, ◌++◌, Option, Some, None, slice_get, option_map}
use Rattle.t_types.specs.Tree.{Ty, IntTy, VarTy, CodeTy, ExistsTy, TupleTy, TFile, NoRegs, MoreRegs, TFields, NoFields}
use Rattle.t_types.specs.Tree.{MoreFields, shift_file, each, each_file}
use Rattle.t_types.specs.Fields.{TField, AField, field, filled, empty_fields}
use Rattle.t_types.specs.Fits.{lookup}
use Rattle.t_types.specs.WellFormed.{max_number, max_names}
use Rattle.t_terms.specs.Tree.{TBase, Reg, Int, Label, Data, TValue, Plain, Pack, TInstr, Arith, Bnz, Ld, Malloc, Mov}
use Rattle.t_terms.specs.Tree.{St, Unpack, TEnd, Jmp, Halt, TSeq, Then, Ends, TBlock, TDatum, TData, TProg}
use Rattle.t_terms.specs.Tree.{names_after}
use Rattle.t_terms.specs.Registers.{inst_file}
use Rattle.t_terms.specs.Labels.{label_type, data_type}

-- the number of registers that stay, where no register is above k: six less, and none of the six too great for a text
abbrev pub lows : ℕ → ℕ
lows k = min k max_number - 6

-- the spilled program's own registers: the frame, the slots, two for operands and results, a frame that is being made,
-- and the frame while a branch has another
abbrev pub frame_reg : ℕ → ℕ
frame_reg m = suc m

abbrev pub slot_reg : ℕ → ℕ
slot_reg m = m + 2

abbrev pub first_reg : ℕ → ℕ
first_reg m = m + 3

abbrev pub second_reg : ℕ → ℕ
second_reg m = m + 4

abbrev pub made_reg : ℕ → ℕ
made_reg m = m + 5

abbrev pub saved_reg : ℕ → ℕ
saved_reg m = m + 6

-- a register in front of a file, where it is wanted
abbrev pub with_if : Bool → ℕ → Ty → TFile → TFile
with_if true r t x = MoreRegs r t x
with_if false r t x = x

abbrev pub without_if : Bool → ℕ → Ty → TFile → TFile
without_if true r t x = x
without_if false r t x = MoreRegs r t x

-- the registers of a file above m, and those up to m, with others behind them
abbrev pub high_part : ℕ → TFile → TFile
high_part m NoRegs = NoRegs
high_part m (MoreRegs r t x) = with_if (nat_lt m r) r t (high_part m x)

abbrev pub low_part : ℕ → TFile → TFile → TFile
low_part m NoRegs last = last
low_part m (MoreRegs r t x) last = without_if (nat_lt m r) r t (low_part m x last)

-- the fields of a frame: each register's type, initialised; and the types alone
abbrev pub frame : TFile → TFields
frame NoRegs = NoFields
frame (MoreRegs r t x) = MoreFields t true (frame x)

abbrev pub cells : TFile → List Ty
cells NoRegs = []
cells (MoreRegs r t x) = t ∷ cells x

-- the registers above m in a frame
abbrev pub split : ℕ → TFile → TFile
split m x = low_part m x (MoreRegs (frame_reg m) (TupleTy (frame (high_part m x))) NoRegs)

-- types: code takes its higher registers in a frame
abbrev mutual
  pub sp : ℕ → Ty → Ty
  sp m IntTy = IntTy
  sp m (VarTy i) = VarTy i
  sp m (CodeTy owes file) = CodeTy owes (split m (sp_regs m file))
  sp m (ExistsTy t) = ExistsTy (sp m t)
  sp m (TupleTy fields) = TupleTy (sp_fields m fields)

  -- the same registers, each type spilled
  pub sp_regs : ℕ → TFile → TFile
  sp_regs m NoRegs = NoRegs
  sp_regs m (MoreRegs r t file) = MoreRegs r (sp m t) (sp_regs m file)

  pub sp_fields : ℕ → TFields → TFields
  sp_fields m NoFields = NoFields
  sp_fields m (MoreFields t flag fields) = MoreFields (sp m t) flag (sp_fields m fields)

abbrev pub sp_file : ℕ → TFile → TFile
sp_file m file = split m (sp_regs m file)

-- values: a register's word may stand in another one; a block is one further on
abbrev pub sp_base : (ℕ → ℕ) → TBase → TBase
sp_base at (Reg r) = Reg (at r)
sp_base at (Int i) = Int i
sp_base at (Label l) = Label (suc l)
sp_base at (Data d) = Data d

abbrev pub sp_value : ℕ → (ℕ → ℕ) → TValue → TValue
sp_value m at (Plain b ts) = Plain (sp_base at b) (map (sp m) ts)
sp_value m at (Pack t v s) = Pack (sp m t) (sp_value m at v) (sp m s)

-- the file with a type for a register, in ascending order
abbrev pub ins : ℕ → Ty → TFile → TFile
ins r t NoRegs = MoreRegs r t NoRegs
ins r t (MoreRegs q u file) =
    cond (nat_lt r q) (MoreRegs r t (MoreRegs q u file))
    (cond (nat_eq r q) (MoreRegs r t file) (MoreRegs q u (ins r t file)))

-- the types of values; IntTy where there is none
abbrev pub or_int : Option Ty → Ty
or_int None = IntTy
or_int (Some t) = t

abbrev pub base_type : TProg → TFile → TBase → Ty
base_type P file (Reg r) = or_int (lookup file r)
base_type P file (Int i) = IntTy
base_type P file (Label l) = or_int (option_map label_type (slice_get P.blocks l))
base_type P file (Data d) = or_int (option_map data_type (slice_get P.heap d))

abbrev pub applied_type : Ty → List Ty → Ty
applied_type (CodeTy owes file) ts = CodeTy (owes - length ts) (inst_file ts owes file)
applied_type _ ts = IntTy

abbrev pub type_of : TProg → TFile → TValue → Ty
type_of P file (Plain b []) = base_type P file b
type_of P file (Plain b (u ∷ us)) = applied_type (base_type P file b) (u ∷ us)
type_of P file (Pack t v s) = s

abbrev pub type_in : Option TField → Ty
type_in None = IntTy
type_in (Some (AField t flag)) = t

abbrev pub field_type : Ty → ℕ → Ty
field_type (TupleTy fs) i = type_in (field fs i)
field_type _ i = IntTy

abbrev pub filled_type : Ty → ℕ → Ty
filled_type (TupleTy fs) i = TupleTy (filled fs i)
filled_type _ i = IntTy

abbrev pub hidden_type : Ty → Ty
hidden_type (ExistsTy t) = t
hidden_type _ = IntTy

abbrev pub target_file : Ty → TFile
target_file (CodeTy owes file) = file
target_file _ = NoRegs

-- the register that an instruction gives a type, if any, and the type
abbrev pub next : TProg → TFile → TInstr → TFile
next P file (Arith op rd rs v) = ins rd IntTy file
next P file (Bnz r v) = file
next P file (Ld rd rs i) = ins rd (field_type (or_int (lookup file rs)) i) file
next P file (Malloc rd ts) = ins rd (TupleTy (empty_fields ts)) file
next P file (Mov rd v) = ins rd (type_of P file v) file
next P file (St rd i rs) = ins rd (filled_type (or_int (lookup file rd)) i) file
next P file (Unpack rd v) = ins rd (hidden_type (type_of P file v)) (shift_file 1 0 file)

abbrev pub reg : ℕ → TValue
reg r = Plain (Reg r) []

-- the file of the target of a branch or a jump
abbrev pub target : TProg → TFile → TInstr → TFile
target P file (Bnz r v) = target_file (type_of P file v)
target _ file _ = NoRegs

abbrev pub end_target : TProg → TFile → TEnd → TFile
end_target P file (Jmp v) = target_file (type_of P file v)
end_target P file Halt = NoRegs

-- the registers of a file
abbrev pub numbers : TFile → List ℕ
numbers NoRegs = []
numbers (MoreRegs r t x) = r ∷ numbers x

-- the registers that are read: by a value, an instruction, an end
abbrev pub base_reads : TBase → List ℕ
base_reads (Reg r) = r ∷ []
base_reads _ = []

abbrev pub value_reads : TValue → List ℕ
value_reads (Plain b ts) = base_reads b
value_reads (Pack t v s) = value_reads v

abbrev pub reads : TInstr → List ℕ
reads (Arith op rd rs v) = rs ∷ value_reads v
reads (Bnz r v) = r ∷ value_reads v
reads (Ld rd rs i) = rs ∷ []
reads (Malloc rd ts) = []
reads (Mov rd v) = value_reads v
reads (St rd i rs) = rd ∷ rs ∷ []
reads (Unpack rd v) = value_reads v

abbrev pub end_reads : TEnd → List ℕ
end_reads (Jmp v) = value_reads v
end_reads Halt = 1 ∷ []

-- the registers that a sequence reads, or hands to a target
abbrev pub live : TProg → TFile → TSeq → List ℕ
live P file (Then i rest) = reads i ++ numbers (target P file i) ++ live P (next P file i) rest
live P file (Ends e) = end_reads e ++ numbers (end_target P file e)

abbrev pub among : ℕ → List ℕ → Bool
among r [] = false
among r (q ∷ qs) = cond (nat_eq q r) true (among r qs)

-- the file without the registers that are not among these
abbrev pub keep : List ℕ → TFile → TFile
keep qs NoRegs = NoRegs
keep qs (MoreRegs r t x) = cond (among r qs) (MoreRegs r t (keep qs x)) (keep qs x)

-- what stays known after an instruction: the registers that the rest wants; a branch leaves all as it was
abbrev pub kept : TProg → TFile → TInstr → TSeq → TFile
kept P file (Bnz r v) rest = file
kept P file i rest = keep (live P (next P file i) rest) (next P file i)

-- where the word of a register stands: in a register, in a field of the frame, or in a slot
pub data Home : Type 0 where
  Held : (q : ℕ) → Home
  InFrame : (i : ℕ) → Home
  InSlot : (i : ℕ) → Home

-- the home of each register, and how many slots are used since the frame was made; there are none before the first
pub record Layout : Type 0 where
  pub homes : ℕ → Home
  pub used : ℕ

abbrev pub homed : (ℕ → Home) → ℕ → Home → ℕ → Home
homed homes r h q = cond (nat_eq r q) h (homes q)

abbrev pub position : List ℕ → ℕ → ℕ
position [] r = 0
position (q ∷ qs) r = cond (nat_eq q r) 0 (suc (position qs r))

-- with a frame of these registers: one up to m is in its place
abbrev pub gathered : ℕ → List ℕ → Layout
gathered m qs = record { homes = λ r. cond (nat_lt m r) (InFrame (position qs r)) (Held r); used = 0 }

-- at the beginning of code that takes the file
abbrev pub layout : ℕ → TFile → Layout
layout m file = gathered m (numbers (high_part m file))

-- instructions in front of a sequence
abbrev pub before : List TInstr → TSeq → TSeq
before [] rest = rest
before (i ∷ xs) rest = Then i (before xs rest)

-- a register's word for an instruction: in the register t, where it is not in one
abbrev pub at_home : ℕ → Home → ℕ
at_home t (Held q) = q
at_home t (InFrame i) = t
at_home t (InSlot i) = t

abbrev pub load : ℕ → ℕ → Home → List TInstr
load m t (Held q) = []
load m t (InFrame i) = Ld t (frame_reg m) i ∷ []
load m t (InSlot i) = Ld t (slot_reg m) i ∷ []

-- a value's register is loaded into the second one
abbrev pub load_value : ℕ → (ℕ → Home) → TValue → List TInstr
load_value m homes (Plain (Reg r) ts) = load m (second_reg m) (homes r)
load_value m homes (Plain b ts) = []
load_value m homes (Pack t v s) = load_value m homes v

abbrev pub second_at : ℕ → (ℕ → Home) → ℕ → ℕ
second_at m homes r = at_home (second_reg m) (homes r)

-- a frame that is being made is filled from field j on
abbrev pub fill : ℕ → (ℕ → Home) → List ℕ → ℕ → List TInstr
fill m homes [] j = []
fill m homes (q ∷ qs) j =
    load m (second_reg m) (homes q) ++ (St (made_reg m) j (second_at m homes q) ∷ fill m homes qs (suc j))

-- a frame of registers above m, made beside the old one
abbrev pub build : ℕ → (ℕ → Home) → TFile → List TInstr
build m homes high = Malloc (made_reg m) (cells (sp_regs m high)) ∷ fill m homes (numbers high) 0

-- and in the place of the old one
abbrev pub gather : ℕ → (ℕ → Home) → TFile → List TInstr
gather m homes high = build m homes high ++ (Mov (frame_reg m) (reg (made_reg m)) ∷ [])

-- the register that an instruction gives a word, if any
abbrev pub defines : TInstr → ℕ
defines (Arith op rd rs v) = rd
defines (Bnz r v) = 0
defines (Ld rd rs i) = rd
defines (Malloc rd ts) = rd
defines (Mov rd v) = rd
defines (St rd i rs) = rd
defines (Unpack rd v) = rd

-- where an instruction computes it
abbrev pub into : ℕ → ℕ → ℕ
into m rd = cond (nat_lt m rd) (first_reg m) rd

-- whether an instruction stores into the tuple of the register, and whether a sequence begins with one that does
abbrev pub stores_by : ℕ → TInstr → Bool
stores_by rd (St r i rs) = nat_eq r rd
stores_by rd _ = false

abbrev pub stores : ℕ → TSeq → Bool
stores rd (Then i rest) = stores_by rd i
stores rd (Ends e) = false

-- What becomes of it: it stays there, or it is held there for the next instruction, which stores into its tuple, or it
-- goes into the next slot, or into a new frame with all that the rest wants. A new frame is made after each unpack,
-- since the types of older fields cannot name the type variable that it binds, and where the slots have come to their
-- greatest number.
pub data Way : Type 0 where
  Stays : Way
  Holds : Way
  Fills : Way
  Gathers : Way

abbrev pub most_slots : ℕ
most_slots = 1000

abbrev pub way_of : ℕ → ℕ → ℕ → TSeq → Way
way_of m used rd rest =
    cond (nat_lt m rd) (cond (nat_lt used most_slots) (cond (stores rd rest) Holds Fills) Gathers) Stays

-- where `rest` follows
abbrev pub way : ℕ → ℕ → TInstr → TSeq → Way
way m used (Bnz r v) rest = Stays
way m used (Unpack rd v) rest = Gathers
way m used i rest = way_of m used (defines i) rest

-- the layout after it, where the file `to` is known then
abbrev pub after_way : ℕ → Layout → ℕ → TFile → Way → Layout
after_way m L rd to Stays = L
after_way m L rd to Holds = record { homes = homed L.homes rd (Held (into m rd)); used = L.used }
after_way m L rd to Fills = record { homes = homed L.homes rd (InSlot L.used); used = suc L.used }
after_way m L rd to Gathers = layout m to

abbrev pub after : ℕ → Layout → TInstr → TSeq → TFile → Layout
after m L i rest to = after_way m L (defines i) to (way m L.used i rest)

-- the types of the slots that a sequence fills before the next frame is made, where some are used already
abbrev pub slots_by : Way → Ty → List Ty → List Ty
slots_by Stays t ts = ts
slots_by Holds t ts = ts
slots_by Fills t ts = t ∷ ts
slots_by Gathers t ts = []

abbrev pub used_by : Way → ℕ → ℕ
used_by Stays used = used
used_by Holds used = used
used_by Fills used = suc used
used_by Gathers used = 0

abbrev pub slots : ℕ → TProg → ℕ → TFile → TSeq → List Ty
slots m P used file (Then i rest) = slots_by (way m used i rest) (sp m (or_int (lookup (next P file i) (defines i))))
    (slots m P (used_by (way m used i rest) used) (kept P file i rest) rest)
slots m P used file (Ends e) = []

-- the word in the first register goes into the next slot; where none is used, all of them are made
abbrev pub fill_slot : ℕ → ℕ → List Ty → List TInstr
fill_slot m zero types = Malloc (slot_reg m) types ∷ St (slot_reg m) 0 (first_reg m) ∷ []
fill_slot m (suc j) types = St (slot_reg m) (suc j) (first_reg m) ∷ []

-- a word where it was computed, put where it goes
abbrev pub finish : ℕ → Layout → ℕ → List Ty → TFile → Way → List TInstr
finish m L rd types to Stays = []
finish m L rd types to Holds = []
finish m L rd types to Fills = fill_slot m L.used types
finish m L rd types to Gathers = gather m (homed L.homes rd (Held (into m rd))) (high_part m to)

-- what is read is loaded, behind a frame for a branch's target, of which these registers are above m
abbrev pub loads : ℕ → (ℕ → Home) → TFile → TInstr → List TInstr
loads m homes high (Arith op rd rs v) = load m (first_reg m) (homes rs) ++ load_value m homes v
loads m homes high (Bnz r v) = build m homes high ++ load m (first_reg m) (homes r) ++ load_value m homes v
loads m homes high (Ld rd rs i) = load m (first_reg m) (homes rs)
loads m homes high (Malloc rd ts) = []
loads m homes high (Mov rd v) = load_value m homes v
loads m homes high (St rd i rs) = load m (first_reg m) (homes rd) ++ load m (second_reg m) (homes rs)
loads m homes high (Unpack rd v) = load_value m homes v

-- the instruction on what is loaded; a branch takes the new frame along
abbrev pub does : ℕ → (ℕ → Home) → TInstr → List TInstr
does m homes (Arith op rd rs v) =
    Arith op (into m rd) (at_home (first_reg m) (homes rs)) (sp_value m (second_at m homes) v) ∷ []
does m homes (Bnz r v) =
    Mov (saved_reg m) (reg (frame_reg m)) ∷ Mov (frame_reg m) (reg (made_reg m))
    ∷ Bnz (at_home (first_reg m) (homes r)) (sp_value m (second_at m homes) v)
    ∷ Mov (frame_reg m) (reg (saved_reg m)) ∷ []
does m homes (Ld rd rs i) = Ld (into m rd) (at_home (first_reg m) (homes rs)) i ∷ []
does m homes (Malloc rd ts) = Malloc (into m rd) (map (sp m) ts) ∷ []
does m homes (Mov rd v) = Mov (into m rd) (sp_value m (second_at m homes) v) ∷ []
does m homes (St rd i rs) = St (into m rd) i (second_at m homes rs) ∷ []
does m homes (Unpack rd v) = Unpack (into m rd) (sp_value m (second_at m homes) v) ∷ []

-- the code of an instruction that `rest` follows
abbrev pub step : ℕ → TProg → Layout → TFile → TInstr → TSeq → List TInstr
step m P L file i rest =
    loads m L.homes (high_part m (target P file i)) i ++ does m L.homes i
    ++ finish m L (defines i) (slots m P L.used file (Then i rest)) (kept P file i rest) (way m L.used i rest)

-- the code of an end
abbrev pub ended : ℕ → (ℕ → Home) → TFile → TEnd → TSeq
ended m homes high (Jmp v) =
    before (build m homes high) (before (load_value m homes v)
    (Then (Mov (frame_reg m) (reg (made_reg m))) (Ends (Jmp (sp_value m (second_at m homes) v)))))
ended m homes high Halt = Ends Halt

abbrev pub code : ℕ → TProg → Layout → TFile → TSeq → TSeq
code m P L file (Then i rest) =
    before (step m P L file i rest) (code m P (after m L i rest (kept P file i rest)) (kept P file i rest) rest)
code m P L file (Ends e) = ended m L.homes (high_part m (end_target P file e)) e

-- the number of instructions in the code of each instruction of a sequence
abbrev pub sizes : ℕ → TProg → Layout → TFile → TSeq → List ℕ
sizes m P L file (Then i rest) =
    length (step m P L file i rest) ∷ sizes m P (after m L i rest (kept P file i rest)) (kept P file i rest) rest
sizes m P L file (Ends e) = []

abbrev pub sp_block : ℕ → TProg → TBlock → TBlock
sp_block m P b = record { owes = b.owes; file = sp_file m b.file; code = code m P (layout m b.file) b.file b.code }

abbrev pub sp_blocks : ℕ → TProg → List TBlock → List TBlock
sp_blocks m P bs = map (sp_block m P) bs

-- data: labels are one further on, and types are spilled; no value of a whole program's data names a register
abbrev pub sp_datum : ℕ → TDatum → TDatum
sp_datum m x = record { value = sp_value m (λ r. 1) x.value; ty = sp m x.ty }

abbrev pub sp_data : ℕ → TData → TData
sp_data m x = map (sp_datum m) x

-- the first block makes an empty frame and enters the old first block
abbrev pub entry : ℕ → TBlock
entry m = record {
  owes = 0;
  file = NoRegs;
  code = Then (Malloc (frame_reg m) []) (Ends (Jmp (Plain (Label 1) [])));
}

abbrev pub spilled_above : ℕ → TProg → TProg
spilled_above m P = record { blocks = entry m ∷ sp_blocks m P P.blocks; heap = map (sp_data m) P.heap }

-- no register above k
abbrev pub spilled : ℕ → TProg → TProg
spilled k P = spilled_above (lows k) P

-- not too many type names are bound around a place of the type, under n type names
abbrev pub FewNames : ℕ → Ty → Type 0
FewNames n t = each (λ d i. Unit {0}) (λ d. d ≤ max_names) n t

abbrev pub FewNamesFile : ℕ → TFile → Type 0
FewNamesFile n file = each_file (λ d i. Unit {0}) (λ d. d ≤ max_names) n file

-- the values of an instruction, and of an end
abbrev pub values_of : TInstr → List TValue
values_of (Arith op rd rs v) = v ∷ []
values_of (Bnz r v) = v ∷ []
values_of (Mov rd v) = v ∷ []
values_of (Unpack rd v) = v ∷ []
values_of _ = []

abbrev pub ValuesFew : TProg → ℕ → TFile → List TValue → Type 0
ValuesFew P n file [] = Unit {0}
ValuesFew P n file (v ∷ vs) = FewNames n (type_of P file v) × ValuesFew P n file vs

-- the same of each type that the typing of a sequence gives to a register or a value
abbrev pub SeqFew : TProg → ℕ → TFile → TSeq → Type 0
SeqFew P n file (Then i rest) = ValuesFew P n file (values_of i) × FewNamesFile (names_after i n) (next P file i)
    × SeqFew P (names_after i n) (next P file i) rest
SeqFew P n file (Ends (Jmp v)) = FewNames n (type_of P file v)
SeqFew P n file (Ends Halt) = Unit {0}

abbrev pub BlocksFew : TProg → List TBlock → Type 0
BlocksFew P [] = Unit {0}
BlocksFew P (b ∷ bs) = SeqFew P b.owes b.file b.code × BlocksFew P bs

abbrev pub TypesFew : TProg → Type 0
TypesFew P = BlocksFew P P.blocks
