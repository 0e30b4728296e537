-- The bytes by which an instruction is written.
use Rattle.std.specs.Prelude.{◌≡◌, FitsSigned, Some, length, ◌-◌, ℕ, ◌<◌, ◌^◌, ◌+◌, ◌*◌, ◌/◌, ◌%◌, ◌==◌, ℤ, List, []}
use Rattle.std.specs.Prelude.{◌∷◌, ◌++◌, cond}
use Rattle.std.specs.Int.{w32, w64, cast_unsigned, to_le_bytes}
use Rattle.x_terms.specs.Decode.{decode_at}
use Rattle.x_terms.specs.Numbers.{number, op_number, shift_number, condition_number}
use Rattle.x_terms.specs.declared.register.Register.{Register}
use Rattle.x_terms.specs.declared.instr.Source.{Source}
use Rattle.x_terms.specs.declared.instr.Source.TheVariants.{Reg, Int}
use Rattle.x_terms.specs.declared.instr.Address.{Address}
use Rattle.x_terms.specs.declared.instr.Address.TheVariants.{Absolute, Based}
use Rattle.x_terms.specs.declared.instr.Instr.{Instr}
use Rattle.x_terms.specs.declared.instr.Instr.TheVariants.{Const, Mov, Load, Store, Lea, Arith, Imul}
use Rattle.x_terms.specs.declared.instr.Instr.TheVariants.{Shift, Test, Jmp, Jcc, JmpReg, Syscall}

abbrev pub int_bytes : ℤ → List ℕ
int_bytes i = to_le_bytes w32 (cast_unsigned w32 i)

-- the prefix with W, for the numbers of two registers (or that of an operation for the first)
unfoldable pub prefix : ℕ → ℕ → ℕ
prefix n q = 72 + n / 8 * 4 + q / 8

-- the byte ModRM
unfoldable pub fields : ℕ → ℕ → ℕ → ℕ
fields mode n q = mode * 64 + n % 8 * 8 + q % 8

-- an opcode whose operand r/m is a register
abbrev pub direct : ℕ → ℕ → Register → List ℕ
direct code n q = prefix n (number q) ∷ code ∷ fields 3 n (number q) ∷ []

-- R12 as a base wants an SIB byte, as the stack pointer would
abbrev pub sib : ℕ → List ℕ
sib b = cond (b == 12) (0x24 ∷ []) []

-- an opcode whose operand r/m stands in memory, up to the displacement
abbrev pub from_base : ℕ → ℕ → ℕ → List ℕ
from_base code n b = prefix n b ∷ code ∷ fields 2 n b ∷ sib b

-- an opcode whose operand r/m stands in memory
abbrev pub indirect : ℕ → ℕ → Address → List ℕ
indirect code n (Absolute d) = prefix n 0 ∷ code ∷ fields 0 n 4 ∷ 0x25 ∷ int_bytes d
indirect code n (Based b d) = from_base code n (number b) ++ int_bytes d

abbrev pub bytes_of : Instr → List ℕ
bytes_of (Const r n) = prefix 0 (number r) ∷ (0xB8 + number r % 8) ∷ to_le_bytes w64 n
bytes_of (Mov q (Reg r)) = direct 0x89 (number r) q
bytes_of (Mov q (Int i)) = direct 0xC7 0 q ++ int_bytes i
bytes_of (Load r a) = indirect 0x8B (number r) a
bytes_of (Store a r) = indirect 0x89 (number r) a
bytes_of (Lea r a) = indirect 0x8D (number r) a
bytes_of (Arith o q (Reg r)) = direct (op_number o * 8 + 1) (number r) q
bytes_of (Arith o q (Int i)) = direct 0x81 (op_number o) q ++ int_bytes i
bytes_of (Imul r q) = prefix (number r) (number q) ∷ 0x0F ∷ 0xAF ∷ fields 3 (number r) (number q) ∷ []
bytes_of (Shift s q k) = direct 0xC1 (shift_number s) q ++ (k ∷ [])
bytes_of (Test q r) = direct 0x85 (number r) q
bytes_of (Jmp d) = 0xE9 ∷ int_bytes d
bytes_of (Jcc e d) = 0x0F ∷ (0x80 + condition_number e) ∷ int_bytes d
bytes_of (JmpReg q) = (0x40 + number q / 8) ∷ 0xFF ∷ fields 3 4 (number q) ∷ []
bytes_of Syscall = 0x0F ∷ 0x05 ∷ []

-- the numbers of an instruction have the bits that are kept for them
abbrev pub FitsSource : Source → Type 0
FitsSource (Reg r) = Unit {0}
FitsSource (Int i) = FitsSigned w32 i

abbrev pub FitsAddress : Address → Type 0
FitsAddress (Absolute d) = FitsSigned w32 d
FitsAddress (Based b d) = FitsSigned w32 d

abbrev pub FitsInstr : Instr → Type 0
FitsInstr (Const r n) = n < 2 ^ 64
FitsInstr (Mov q s) = FitsSource s
FitsInstr (Load r a) = FitsAddress a
FitsInstr (Store a r) = FitsAddress a
FitsInstr (Lea r a) = FitsAddress a
FitsInstr (Arith o q s) = FitsSource s
FitsInstr (Jmp d) = FitsSigned w32 d
FitsInstr (Jcc e d) = FitsSigned w32 d
FitsInstr _ = Unit {0}

-- Behind the old code the new one has an instruction: it is read there, with all bytes that are new, whatever follows.
abbrev pub Stands : Instr → List ℕ → List ℕ → Type 0
Stands i old new =
    (rest : List ℕ) → decode_at (new ++ rest) (length old) ≡ Some (i, length new - length old)
