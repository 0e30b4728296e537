-- No register of a program is above k: in instructions, in data, and in files at any depth of a type.
use Rattle.std.specs.Prelude.{ℕ, ◌≤◌, List, [], ◌∷◌}
use Rattle.t_types.specs.Tree.{Ty, IntTy, VarTy, CodeTy, ExistsTy, TupleTy, TFile, NoRegs, MoreRegs, TFields, NoFields}
use Rattle.t_types.specs.Tree.{MoreFields}
use Rattle.t_terms.specs.Tree.{TBase, Reg, TValue, Plain, Pack, TInstr, Arith, Bnz, Ld, Malloc, Mov}
use Rattle.t_terms.specs.Tree.{St, Unpack, Jmp, Halt, TSeq, Then, Ends, TBlock, TData, TProg}

abbrev mutual
  pub InType : ℕ → Ty → Type 0
  InType k IntTy = Unit {0}
  InType k (VarTy i) = Unit {0}
  InType k (CodeTy owes file) = InFile k file
  InType k (ExistsTy t) = InType k t
  InType k (TupleTy fields) = InFields k fields

  pub InFile : ℕ → TFile → Type 0
  InFile k NoRegs = Unit {0}
  InFile k (MoreRegs r t file) = (r ≤ k) × InType k t × InFile k file

  pub InFields : ℕ → TFields → Type 0
  InFields k NoFields = Unit {0}
  InFields k (MoreFields t flag fields) = InType k t × InFields k fields

abbrev pub InTypes : ℕ → List Ty → Type 0
InTypes k [] = Unit {0}
InTypes k (t ∷ ts) = InType k t × InTypes k ts

abbrev pub InBase : ℕ → TBase → Type 0
InBase k (Reg r) = r ≤ k
InBase k _ = Unit {0}

abbrev pub InValue : ℕ → TValue → Type 0
InValue k (Plain b ts) = InBase k b × InTypes k ts
InValue k (Pack t v s) = InType k t × InValue k v × InType k s

abbrev pub InInstr : ℕ → TInstr → Type 0
InInstr k (Arith op rd rs v) = (rd ≤ k) × (rs ≤ k) × InValue k v
InInstr k (Bnz r v) = (r ≤ k) × InValue k v
InInstr k (Ld rd rs i) = (rd ≤ k) × (rs ≤ k)
InInstr k (Malloc rd ts) = (rd ≤ k) × InTypes k ts
InInstr k (Mov rd v) = (rd ≤ k) × InValue k v
InInstr k (St rd i rs) = (rd ≤ k) × (rs ≤ k)
InInstr k (Unpack rd v) = (rd ≤ k) × InValue k v

abbrev pub InSeq : ℕ → TSeq → Type 0
InSeq k (Then i rest) = InInstr k i × InSeq k rest
InSeq k (Ends (Jmp v)) = InValue k v
InSeq k (Ends Halt) = Unit {0}

abbrev pub InBlocks : ℕ → List TBlock → Type 0
InBlocks k [] = Unit {0}
InBlocks k (b ∷ bs) = InFile k b.file × InSeq k b.code × InBlocks k bs

abbrev pub InData : ℕ → TData → Type 0
InData k [] = Unit {0}
InData k (x ∷ xs) = InValue k x.value × InType k x.ty × InData k xs

abbrev pub InHeap : ℕ → List TData → Type 0
InHeap k [] = Unit {0}
InHeap k (x ∷ xs) = InData k x × InHeap k xs

abbrev pub RegistersUpTo : ℕ → TProg → Type 0
RegistersUpTo k P = InBlocks k P.blocks × InHeap k P.heap
