-- For which programs there is no word code: those that are too large.
use Rattle.std.specs.Prelude.{◌≡◌, ℕ, suc, ◌≤◌, ◌<◌, ◌^◌, max, List, [], ◌∷◌, ◌⊎◌}
use Rattle.t_terms.specs.Tree.{TBase, Reg, Int, Label, Data, TProg}
use Rattle.t_rules.specs.Erase.{EInstr, EArith, EBnz, ELd, EMalloc, EMov, ESt, ESeq, EThen, EJmp, EHalt, erase_blocks}
use Rattle.w_blocks.specs.Read.{layout}
use Rattle.w_terms.specs.Tree.{WProg}
use Rattle.w_laws.specs.Built.{IsBuilt, program_layout}
use Rattle.w_gen.specs.declared.memory.Plan.{Plan}

-- the highest register that a base names, or 0
abbrev pub base_register : TBase → ℕ
base_register (Reg q) = q
base_register (Int i) = 0
base_register (Label l) = 0
base_register (Data d) = 0

-- ..., that an instruction, a sequence, and sequences name
abbrev pub instr_register : EInstr → ℕ
instr_register (EArith op rd rs b) = max (max rd rs) (base_register b)
instr_register (EBnz q b) = max q (base_register b)
instr_register (ELd rd rs i) = max rd rs
instr_register (EMalloc rd n) = rd
instr_register (EMov rd b) = max rd (base_register b)
instr_register (ESt rd i rs) = max rd rs

abbrev pub seq_register : ESeq → ℕ
seq_register (EThen i e) = max (instr_register i) (seq_register e)
seq_register (EJmp b) = base_register b
seq_register EHalt = 0

abbrev pub highest_register : List ESeq → ℕ
highest_register [] = 0
highest_register (e ∷ es) = max (seq_register e) (highest_register es)

-- the highest number of a field that an instruction, a sequence, and sequences name, or of fields that they make
abbrev pub instr_field : EInstr → ℕ
instr_field (EArith op rd rs b) = 0
instr_field (EBnz q b) = 0
instr_field (ELd rd rs i) = i
instr_field (EMalloc rd n) = n
instr_field (EMov rd b) = 0
instr_field (ESt rd i rs) = i

abbrev pub seq_field : ESeq → ℕ
seq_field (EThen i e) = max (instr_field i) (seq_field e)
seq_field (EJmp b) = 0
seq_field EHalt = 0

abbrev pub highest_field : List ESeq → ℕ
highest_field [] = 0
highest_field (e ∷ es) = max (seq_field e) (highest_field es)

-- how many registers a program has: one more than the highest that it names, and two at least, since a program that
-- halts does so with the integer in register 1
abbrev pub registers_of : TProg → ℕ
registers_of P = suc (max (highest_register (erase_blocks P)) 1)

-- It has more than 2 ^ 20 registers, ..
abbrev pub IsWide : TProg → Type 0
IsWide P = 2 ^ 20 ≤ highest_register (erase_blocks P)

-- .. or names a field from number 2 ^ 28 on, or makes a tuple of so many fields, or its memory ends at the address
-- 2 ^ 47
-- or behind it.
abbrev pub IsTooLarge : (base heap : ℕ) → TProg → Type 0
IsTooLarge base heap P =
    IsWide P ⊎ (2 ^ 28 ≤ highest_field (erase_blocks P))
    ⊎ (2 ^ 47 ≤ (program_layout base heap (registers_of P) P).top)

-- The word code is that of the program, for as many registers as the program has.
abbrev pub IsBuiltInFull : (P : TProg) (base heap : ℕ) → WProg → Type 0
IsBuiltInFull P base heap W = (b : IsBuilt P base heap W) × (b.many ≡ registers_of P)

-- What is made of a program: a plan of so many registers, with its memory laid out for a heap from base on.
pub record IsPlan (P : TProg) (base heap : ℕ) (p : Plan) : Type 0 where
  pub begins : p.base ≡ base
  pub length : p.heap ≡ heap
  pub many : p.many ≡ registers_of P
  pub few : p.many ≤ 2 ^ 20
  pub short : highest_field (erase_blocks P) < 2 ^ 28
  pub parts : layout p.parts ≡ program_layout base heap (registers_of P) P
  pub fits : p.parts.top < 2 ^ 47
