-- Programs with few type names, as a text by hand has: a test of what is written, from which follows what a program
-- that is spilled asks of the types that typing gives.
use Rattle.std.specs.Prelude.{ℕ, suc, ◌-◌, ◌≤◌, List, [], ◌∷◌}
use Rattle.t_types.specs.Tree.{Ty, IntTy, VarTy, CodeTy, ExistsTy, TupleTy, TFile, NoRegs, MoreRegs, TFields, NoFields}
use Rattle.t_types.specs.Tree.{MoreFields}
use Rattle.t_terms.specs.Tree.{TValue, Plain, Pack, TInstr, Arith, Bnz, Ld, Malloc, Mov, St, Unpack, TEnd, Jmp, Halt}
use Rattle.t_terms.specs.Tree.{TSeq, Then, Ends, TBlock, TData, TProg}

-- at most k names are bound around a place in the type, by the type itself
abbrev mutual
  pub FewInType : ℕ → Ty → Type 0
  FewInType k IntTy = Unit {0}
  FewInType k (VarTy i) = Unit {0}
  FewInType k (CodeTy owes file) = (owes ≤ k) × FewInFile (k - owes) file
  FewInType k (ExistsTy t) = (1 ≤ k) × FewInType (k - 1) t
  FewInType k (TupleTy fields) = FewInFields k fields

  pub FewInFile : ℕ → TFile → Type 0
  FewInFile k NoRegs = Unit {0}
  FewInFile k (MoreRegs r t file) = FewInType k t × FewInFile k file

  pub FewInFields : ℕ → TFields → Type 0
  FewInFields k NoFields = Unit {0}
  FewInFields k (MoreFields t flag fields) = FewInType k t × FewInFields k fields

abbrev pub FewInTypes : ℕ → List Ty → Type 0
FewInTypes k [] = Unit {0}
FewInTypes k (t ∷ ts) = FewInType k t × FewInTypes k ts

-- types that are given to a value bind no names
abbrev pub FewInValue : ℕ → TValue → Type 0
FewInValue k (Plain b ts) = FewInTypes 0 ts
FewInValue k (Pack t v s) = FewInType k s

abbrev pub FewInInstr : ℕ → TInstr → Type 0
FewInInstr k (Arith op rd rs v) = FewInValue k v
FewInInstr k (Bnz r v) = FewInValue k v
FewInInstr k (Ld rd rs i) = Unit {0}
FewInInstr k (Malloc rd ts) = FewInTypes k ts
FewInInstr k (Mov rd v) = FewInValue k v
FewInInstr k (St rd i rs) = Unit {0}
FewInInstr k (Unpack rd v) = FewInValue k v

abbrev pub FewInEnd : ℕ → TEnd → Type 0
FewInEnd k (Jmp v) = FewInValue k v
FewInEnd k Halt = Unit {0}

abbrev pub FewInSeq : ℕ → TSeq → Type 0
FewInSeq k (Then i rest) = FewInInstr k i × FewInSeq k rest
FewInSeq k (Ends e) = FewInEnd k e

-- how many instructions stand before the end
abbrev pub steps : TSeq → ℕ
steps (Then i rest) = suc (steps rest)
steps (Ends e) = 0

abbrev pub FewInBlock : ℕ → TBlock → Type 0
FewInBlock k b = (b.owes ≤ k) × FewInFile k b.file × (steps b.code ≤ 1000000) × FewInSeq k b.code

abbrev pub FewInBlocks : ℕ → List TBlock → Type 0
FewInBlocks k [] = Unit {0}
FewInBlocks k (b ∷ bs) = FewInBlock k b × FewInBlocks k bs

abbrev pub FewInData : ℕ → TData → Type 0
FewInData k [] = Unit {0}
FewInData k (x ∷ xs) = FewInType k x.ty × FewInData k xs

abbrev pub FewInHeap : ℕ → List TData → Type 0
FewInHeap k [] = Unit {0}
FewInHeap k (x ∷ xs) = FewInData k x × FewInHeap k xs

abbrev pub FewInProgram : TProg → Type 0
FewInProgram P = FewInBlocks 1000 P.blocks × FewInHeap 1000 P.heap
