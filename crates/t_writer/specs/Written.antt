-- How a program is written. Inside d type names the next one is `T` and d. A label is `L` and the number of its block,
-- or `D` and the number of its data tuple.
use Rattle.std.specs.Prelude.{◌≡◌, ℕ, zero, suc, ◌+◌, ◌-◌, List, [], ◌∷◌, ◌++◌, pos, Bool, true, false, codes}
use Rattle.idx_core.specs.declared.arith.Op.{Op}
use Rattle.idx_core.specs.declared.arith.Op.TheVariants.{Add, Sub, Mul}
use Rattle.t_types.specs.Tree.{Ty, IntTy, VarTy, CodeTy, ExistsTy, TupleTy, TFile, NoRegs, MoreRegs, TFields, NoFields}
use Rattle.t_types.specs.Tree.{MoreFields}
use Rattle.t_terms.specs.Tree.{TBase, Reg, Int, Label, Data, TValue, Plain, Pack, TInstr, Arith, Bnz, Ld, Malloc, Mov}
use Rattle.t_terms.specs.Tree.{St, Unpack, TEnd, Jmp, Halt, TSeq, Then, Ends, TBlock, TDatum, TData, TProg, names_after}
use Rattle.t_writer.specs.Lexeme.{Lexeme, Reserved, TypeName, LabelName, DataName, Register, Number, Digit, Blank}
use Rattle.t_writer.specs.Lexeme.{caret, colon, comma, dot, left_angle, left_brace, left_bracket, right_angle}
use Rattle.t_writer.specs.Lexeme.{right_brace, right_bracket}

abbrev pub space : Lexeme
space = Blank 32

abbrev pub line_end : Lexeme
line_end = Blank 10

-- what stands between an item of a list and the i items before it
abbrev pub separator : ℕ → List Lexeme
separator zero = []
separator (suc i) = comma ∷ (space ∷ [])

-- count names from the depth d on, with i before them
abbrev pub names_written : ℕ → ℕ → ℕ → List Lexeme
names_written i d zero = []
names_written i d (suc count) = separator i ++ TypeName d ∷ names_written (suc i) (d + 1) count

-- [ names ]
abbrev pub binds_written : ℕ → ℕ → List Lexeme
binds_written d count = left_bracket ∷ (names_written 0 d count ++ right_bracket ∷ [])

abbrev pub bit : Bool → ℕ
bit true = 1
bit false = 0

abbrev pub flag_written : Bool → Lexeme
flag_written flag = Digit (bit flag)

abbrev mutual
  pub type_written : ℕ → Ty → List Lexeme
  type_written d IntTy = Reserved (codes "int") ∷ []
  type_written d (VarTy i) = TypeName (d - 1 - i) ∷ []
  type_written d (CodeTy owes file) =
      Reserved (codes "all") ∷ (binds_written d owes ++ (left_brace ∷
      (regs_written 0 (d + owes) file ++ right_brace ∷ [])))
  type_written d (ExistsTy t) =
      Reserved (codes "some") ∷ (space ∷ (TypeName d ∷ (dot ∷ (space ∷ type_written (d + 1) t))))
  type_written d (TupleTy fields) = left_angle ∷ (fields_written 0 d fields ++ right_angle ∷ [])

  -- registers with their types, with i before them
  pub regs_written : ℕ → ℕ → TFile → List Lexeme
  regs_written i d NoRegs = []
  regs_written i d (MoreRegs r t file) =
      separator i ++ (Register r ∷ (colon ∷ (type_written d t ++ regs_written (suc i) d file)))

  -- types with their flags, with i before them
  pub fields_written : ℕ → ℕ → TFields → List Lexeme
  fields_written i d NoFields = []
  fields_written i d (MoreFields t flag fields) =
      separator i ++ (type_written d t ++ (caret ∷ (flag_written flag ∷ fields_written (suc i) d fields)))

abbrev pub file_written : ℕ → TFile → List Lexeme
file_written d file = left_brace ∷ (regs_written 0 d file ++ right_brace ∷ [])

-- types, with i before them
abbrev pub types_written : ℕ → ℕ → List Ty → List Lexeme
types_written i d [] = []
types_written i d (t ∷ ts) = separator i ++ (type_written d t ++ types_written (suc i) d ts)

-- [ types ]
abbrev pub list_written : ℕ → List Ty → List Lexeme
list_written d ts = left_bracket ∷ (types_written 0 d ts ++ right_bracket ∷ [])

abbrev pub base_written : TBase → Lexeme
base_written (Reg r) = Register r
base_written (Int i) = Number i
base_written (Label l) = LabelName l
base_written (Data d) = DataName d

abbrev pub args_written : ℕ → List Ty → List Lexeme
args_written d [] = []
args_written d (t ∷ ts) = list_written d (t ∷ ts)

abbrev pub value_written : ℕ → TValue → List Lexeme
value_written d (Plain b ts) = base_written b ∷ args_written d ts
value_written d (Pack t v s) =
    Reserved (codes "pack") ∷ (left_bracket ∷ (type_written d t ++ (comma ∷ (space ∷
    (value_written d v ++ (right_bracket ∷
    (space ∷ (Reserved (codes "as") ∷ (space ∷ type_written d s)))))))))

abbrev pub op_written : Op → Lexeme
op_written Add = Reserved (codes "add")
op_written Sub = Reserved (codes "sub")
op_written Mul = Reserved (codes "mul")

-- reg [ n ]
abbrev pub place_written : ℕ → ℕ → List Lexeme
place_written r i = Register r ∷ (left_bracket ∷ (Number (pos i) ∷ (right_bracket ∷ [])))

-- unpack [ name , reg ] and a comma
abbrev pub unpacked_written : ℕ → ℕ → List Lexeme
unpacked_written d rd =
    Reserved (codes "unpack") ∷ (left_bracket ∷ (TypeName d ∷ (comma ∷ (space ∷ (Register rd ∷ (right_bracket ∷
    (comma ∷ (space ∷ []))))))))

abbrev pub instr_written : ℕ → TInstr → List Lexeme
instr_written d (Arith op rd rs v) =
    op_written op ∷ (space ∷ (Register rd ∷ (comma ∷ (space ∷ (Register rs ∷ (comma ∷ (space ∷ value_written d v)))))))
instr_written d (Bnz r v) = Reserved (codes "bnz") ∷ (space ∷ (Register r ∷ (comma ∷ (space ∷ value_written d v))))
instr_written d (Ld rd rs i) =
    Reserved (codes "ld") ∷ (space ∷ (Register rd ∷ (comma ∷ (space ∷ place_written rs i))))
instr_written d (Malloc rd ts) = Reserved (codes "malloc") ∷ (space ∷ (Register rd ∷ list_written d ts))
instr_written d (Mov rd v) = Reserved (codes "mov") ∷ (space ∷ (Register rd ∷ (comma ∷ (space ∷ value_written d v))))
instr_written d (St rd i rs) =
    Reserved (codes "st") ∷ (space ∷ (place_written rd i ++ (comma ∷ (space ∷ (Register rs ∷ [])))))
instr_written d (Unpack rd v) = unpacked_written d rd ++ value_written d v

abbrev pub end_written : ℕ → TEnd → List Lexeme
end_written d (Jmp v) = Reserved (codes "jmp") ∷ (space ∷ value_written d v)
end_written d Halt = Reserved (codes "halt") ∷ (left_bracket ∷ (Reserved (codes "int") ∷ (right_bracket ∷ [])))

-- one line for each instruction, and for the end
abbrev pub seq_written : ℕ → TSeq → List Lexeme
seq_written d (Then i rest) = instr_written d i ++ (line_end ∷ seq_written (names_after i d) rest)
seq_written d (Ends e) = end_written d e ++ line_end ∷ []

abbrev pub block_written : ℕ → TBlock → List Lexeme
block_written l b =
    LabelName l ∷ (colon ∷ (space ∷ (Reserved (codes "code") ∷
    (binds_written 0 b.owes ++ (file_written b.owes b.file ++
    (dot ∷ (line_end ∷ seq_written b.owes b.code)))))))

-- blocks, with l before them
abbrev pub blocks_written : ℕ → List TBlock → List Lexeme
blocks_written l [] = []
blocks_written l (b ∷ bs) = block_written l b ++ blocks_written (suc l) bs

-- a value and the type that is written for it
abbrev pub datum_written : TDatum → List Lexeme
datum_written x = value_written 0 x.value ++ (space ∷ (colon ∷ (space ∷ type_written 0 x.ty)))

-- the fields of a data tuple, with i before them
abbrev pub data_fields_written : ℕ → TData → List Lexeme
data_fields_written i [] = []
data_fields_written i (x ∷ xs) = separator i ++ (datum_written x ++ data_fields_written (suc i) xs)

-- a line for a data tuple
abbrev pub data_written : ℕ → TData → List Lexeme
data_written d xs =
    DataName d ∷ (colon ∷ (space ∷ (Reserved (codes "data") ∷ (space ∷ (left_angle ∷
    (data_fields_written 0 xs ++ (right_angle ∷ (line_end ∷ []))))))))

-- data tuples, with d before them
abbrev pub heap_written : ℕ → List TData → List Lexeme
heap_written d [] = []
heap_written d (x ∷ xs) = data_written d x ++ heap_written (suc d) xs

-- a line with the version of the language, and the rest
abbrev pub version_written : ℕ → List Lexeme → List Lexeme
version_written n rest = Reserved (codes "tal") ∷ (space ∷ (Digit n ∷ (line_end ∷ rest)))

-- a program without data, in the first version
abbrev pub program_written : List TBlock → List Lexeme
program_written bs = version_written 1 (blocks_written 0 bs)

-- a program in the second version: its data and then its blocks
abbrev pub second_written : TProg → List Lexeme
second_written P = version_written 2 (heap_written 0 P.heap ++ blocks_written 0 P.blocks)

-- the text begins with the words of the first version of the language, and a line end
abbrev pub HasHeader : List ℕ → Type 0
HasHeader text = (rest : List ℕ) × (text ≡ codes "tal 1\n" ++ rest)

-- the same of the second version
abbrev pub HasSecondHeader : List ℕ → Type 0
HasSecondHeader text = (rest : List ℕ) × (text ≡ codes "tal 2\n" ++ rest)
