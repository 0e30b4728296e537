-- The code of the running machine, and the erased blocks that it stands for.
use Rattle.std.specs.Prelude.{◌≡◌, ℕ, List, [], ◌∷◌, drop, map, Some, ◌⊎◌, slice_index}
use Rattle.t_terms.specs.Tree.{TBase, Reg}
use Rattle.t_terms.specs.Tree as tree
use Rattle.t_rules.specs.Erase.{EInstr, EArith, EBnz, ELd, EMalloc, EMov, ESt, ESeq, EThen, EJmp, EHalt}
use Rattle.t_machine.specs.Places.{PlaceList, register_place}
use Rattle.t_collect.specs.Words.{tuple_of}
use Rattle.t_machine.specs.Action.{Action, action, Arith, Bnz, Ld, Malloc, Mov, St, Jmp, Halt, moved_data}
use Rattle.t_collect.specs.declared.word.Word.{Word}
use Rattle.t_machine.specs.declared.code.Operand.{Operand}
use Rattle.t_machine.specs.declared.code.Operand.TheVariants.{Register, Int, Label, Data}
use Rattle.t_machine.specs.declared.code.Number.{Number}
use Rattle.t_machine.specs.declared.code.Number.TheVariants as number
use Rattle.t_machine.specs.declared.code.Target.{Target}
use Rattle.t_machine.specs.declared.code.Target.TheVariants as target
use Rattle.t_machine.specs.declared.code.Instruction.{Instruction}
use Rattle.t_machine.specs.declared.code.Code.{Code}

-- the base is the register at the place, where m has the places of the registers
abbrev pub IsRegisterAt : PlaceList → ℕ → TBase → Type 0
IsRegisterAt m k b = (r : ℕ) × (register_place m r ≡ Some k) × (b ≡ Reg r)

-- the operand is the base
abbrev pub IsBase : PlaceList → Operand → TBase → Type 0
IsBase m (Register k) b = IsRegisterAt m k b
IsBase m (Int i) b = b ≡ tree.Int i
IsBase m (Label l) b = b ≡ tree.Label l
IsBase m (Data a) b = b ≡ tree.Data (tuple_of a)

-- the base is a label or the address of a data tuple, with which no accepted program computes
abbrev pub IsNoNumber : TBase → Type 0
IsNoNumber (tree.Reg r) = ⊥
IsNoNumber (tree.Int i) = ⊥
IsNoNumber (tree.Label l) = Unit {0}
IsNoNumber (tree.Data d) = Unit {0}

-- the right operand of an operation is the base; for what is no number any integer may stand
abbrev pub IsNumber : PlaceList → Number → TBase → Type 0
IsNumber m (number.Register k) b = IsRegisterAt m k b
IsNumber m (number.Int i) b = (b ≡ tree.Int i) ⊎ IsNoNumber b

-- The place is where the block of the label begins, by where all blocks begin. For what is no label, to which no
-- accepted program goes, any place may stand.
abbrev pub IsEntry : List ℕ → ℕ → TBase → Type 0
IsEntry es n (tree.Reg r) = ⊥
IsEntry es n (tree.Int i) = Unit {0}
IsEntry es n (tree.Label l) = n ≡ slice_index es l
IsEntry es n (tree.Data d) = Unit {0}

-- the target is the base
abbrev pub IsTarget : PlaceList → List ℕ → Target → TBase → Type 0
IsTarget m es (target.Register k) b = IsRegisterAt m k b
IsTarget m es (target.Entry n) b = IsEntry es n b

-- it is the erased instruction, where the blocks begin at es
abbrev pub IsInstr : PlaceList → List ℕ → Action → EInstr → Type 0
IsInstr m es (Arith op d s v) i =
    (rd : ℕ) × (rs : ℕ) × (b : TBase) × (register_place m rd ≡ Some d) × (register_place m rs ≡ Some s) × IsNumber m v b
    × (i ≡ EArith op rd rs b)
IsInstr m es (Bnz s v) i = (r : ℕ) × (b : TBase) × (register_place m r ≡ Some s) × IsTarget m es v b × (i ≡ EBnz r b)
IsInstr m es (Ld d s n) i =
    (rd : ℕ) × (rs : ℕ) × (register_place m rd ≡ Some d) × (register_place m rs ≡ Some s) × (i ≡ ELd rd rs n)
IsInstr m es (Malloc d n) i = (rd : ℕ) × (register_place m rd ≡ Some d) × (i ≡ EMalloc rd n)
IsInstr m es (Mov d v) i = (rd : ℕ) × (b : TBase) × (register_place m rd ≡ Some d) × IsBase m v b × (i ≡ EMov rd b)
IsInstr m es (St d n s) i =
    (rd : ℕ) × (rs : ℕ) × (register_place m rd ≡ Some d) × (register_place m rs ≡ Some s) × (i ≡ ESt rd n rs)
IsInstr m es (Jmp v) i = ⊥
IsInstr m es (Halt s) i = ⊥

-- it is the end of a block
abbrev pub IsEnd : PlaceList → List ℕ → Action → ESeq → Type 0
IsEnd m es (Jmp v) c = (b : TBase) × IsTarget m es v b × (c ≡ EJmp b)
IsEnd m es (Halt s) c = (register_place m 1 ≡ Some s) × (c ≡ EHalt)
IsEnd m es _ c = ⊥

-- the code begins with the sequence: with an instruction and the rest of it, or with its end
abbrev pub Holds : PlaceList → List ℕ → List Instruction → ESeq → Type 0
Holds m es [] c = ⊥
Holds m es (o ∷ os) c =
    ((i : EInstr) × (rest : ESeq) × IsInstr m es (action o) i × (c ≡ EThen i rest) × Holds m es os rest)
    ⊎ IsEnd m es (action o) c

-- the blocks stand in the code, each from its entry on
abbrev pub HoldsBlocks : PlaceList → List ℕ → List Instruction → List ℕ → List ESeq → Type 0
HoldsBlocks m es os [] [] = Unit {0}
HoldsBlocks m es os (k ∷ ks) (c ∷ cs) = Holds m es (drop k os) c × HoldsBlocks m es os ks cs
HoldsBlocks m es os [] (c ∷ cs) = ⊥
HoldsBlocks m es os (k ∷ ks) [] = ⊥

-- the code has these blocks
abbrev pub IsCode : Code → List ESeq → Type 0
IsCode x cs = HoldsBlocks x.places x.entries.items x.instructions.items x.entries.items cs

-- the addresses of data tuples that the instructions move
abbrev pub all_moved : List Instruction → List Word
all_moved os = map (λ o. moved_data (action o)) os
