-- How the blocks lie in the code, and which registers have places.
use Rattle.std.specs.Prelude.{◌≡◌, ℕ, zero, suc, ◌+◌, ◌<◌, List, [], ◌∷◌, length, Some, ◌⊎◌}
use Rattle.t_terms.specs.Tree.{TBase, Reg}
use Rattle.t_rules.specs.Erase.{EInstr, EArith, EBnz, ELd, EMalloc, EMov, ESt, ESeq, EThen, EJmp, EHalt}
use Rattle.t_machine.specs.Places.{PlaceList, register_place}
use Rattle.t_machine.specs.declared.code.Code.{Code}

-- the number of instructions of a block, its end among them
abbrev pub size : ESeq → ℕ
size (EThen i c) = suc (size c)
size (EJmp b) = 1
size EHalt = 1

abbrev pub sizes : List ESeq → ℕ
sizes [] = 0
sizes (c ∷ cs) = size c + sizes cs

-- where the blocks begin: the first one at n, each other where the one before it ends
abbrev pub begins : ℕ → List ESeq → List ℕ
begins n [] = []
begins n (c ∷ cs) = n ∷ begins (n + size c) cs

-- the blocks lie in the code one after the other, with nothing between them and nothing after them
abbrev pub IsLaid : Code → List ESeq → Type 0
IsLaid x cs = (x.entries.items ≡ begins 0 cs) × (length x.instructions.items ≡ sizes cs)

-- the instruction i of block b stands at this place, where the first block begins at n
abbrev pub Within : ℕ → List ESeq → ℕ → ℕ → ℕ → Type 0
Within n [] b i at = ⊥
Within n (c ∷ cs) zero i at = (i < size c) × (at ≡ n + i)
Within n (c ∷ cs) (suc b) i at = Within (n + size c) cs b i at

-- no place of the code is that of two instructions
abbrev pub PlacesAreReadBack : Type 0
PlacesAreReadBack =
    (cs : List ESeq) (b c i j at : ℕ) → Within 0 cs b i at → Within 0 cs c j at → (b ≡ c) × (i ≡ j)

-- the register stands in the operand, the instruction, the block, one of the blocks
abbrev pub InOperand : TBase → ℕ → Type 0
InOperand (Reg q) r = r ≡ q
InOperand _ r = ⊥

abbrev pub InInstruction : EInstr → ℕ → Type 0
InInstruction (EArith op d s b) r = (r ≡ d) ⊎ ((r ≡ s) ⊎ InOperand b r)
InInstruction (EBnz s b) r = (r ≡ s) ⊎ InOperand b r
InInstruction (ELd d s n) r = (r ≡ d) ⊎ (r ≡ s)
InInstruction (EMalloc d n) r = r ≡ d
InInstruction (EMov d b) r = (r ≡ d) ⊎ InOperand b r
InInstruction (ESt d n s) r = (r ≡ d) ⊎ (r ≡ s)

-- `halt` reads register 1
abbrev pub InBlock : ESeq → ℕ → Type 0
InBlock (EThen i c) r = InInstruction i r ⊎ InBlock c r
InBlock (EJmp b) r = InOperand b r
InBlock EHalt r = r ≡ 1

abbrev pub InBlocks : List ESeq → ℕ → Type 0
InBlocks [] r = ⊥
InBlocks (c ∷ cs) r = InBlock c r ⊎ InBlocks cs r

-- the register has a place
abbrev pub HasPlace : PlaceList → ℕ → Type 0
HasPlace m r = (k : ℕ) × (register_place m r ≡ Some k)

-- of the registers that have a place in n, each has one in m or is among these
abbrev pub Adds : PlaceList → PlaceList → (ℕ → Type 0) → Type 0
Adds m n among = (r k : ℕ) → register_place n r ≡ Some k → HasPlace m r ⊎ among r

-- no register has a place but those in the blocks
abbrev pub IsNamed : Code → List ESeq → Type 0
IsNamed x cs = (r k : ℕ) → register_place x.places r ≡ Some k → InBlocks cs r
