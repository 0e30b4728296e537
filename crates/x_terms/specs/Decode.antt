-- Which instruction stands at the head of a list of bytes, and how many bytes it has. All that is not listed here is no
-- instruction. The rules are those of Intel's manual, volume 2: chapter 2 on prefixes, ModRM, SIB and displacements in
-- 64-bit mode, and chapters 3 to 5, from which the line of each opcode is quoted.
use Rattle.std.specs.Prelude.{ℕ, ◌+◌, ◌-◌, ◌*◌, ◌/◌, ◌%◌, ◌==◌, ℤ, List, [], ◌∷◌, length, drop, true, false, cond}
use Rattle.std.specs.Prelude.{Option, Some, None}
use Rattle.std.specs.Int.{w32, w64, cast_signed, from_le_bytes}
use Rattle.x_terms.specs.Numbers.{entry, register, op, shift, condition}
use Rattle.x_terms.specs.declared.register.Register.{Register}
use Rattle.x_terms.specs.declared.instr.Op.{Op}
use Rattle.x_terms.specs.declared.instr.Op.TheVariants.{Add, Or, And, Sub, Cmp}
use Rattle.x_terms.specs.declared.instr.Source.TheVariants.{Reg, Int}
use Rattle.x_terms.specs.declared.instr.Address.{Address}
use Rattle.x_terms.specs.declared.instr.Address.TheVariants.{Absolute, Based}
use Rattle.x_terms.specs.declared.instr.Instr.{Instr}
use Rattle.x_terms.specs.declared.instr.Instr.TheVariants.{Const, Mov, Load, Store, Lea, Arith, Imul}
use Rattle.x_terms.specs.declared.instr.Instr.TheVariants.{Shift, Test, Jmp, Jcc, JmpReg, Syscall}

-- what was read, and the bytes behind it
abbrev pub Read : Type 0 → Type 0
Read T = Option (T × List ℕ)

abbrev pub and_then : {T U : Type 0} → Option T → (T → Option U) → Option U
and_then None f = None
and_then (Some x) f = f x

-- ---- prefix, ModRM and SIB (2.1.3, 2.2.1)

-- a REX prefix: 0100 and its four bits W, R, X, B
pub record Rex : Type 0 where
  pub w : ℕ
  pub r : ℕ
  pub x : ℕ
  pub b : ℕ

unfoldable pub rex : ℕ → Option Rex
rex n =
    cond (n / 16 == 4)
    (Some (record { w = n / 8 % 2; r = n / 4 % 2; x = n / 2 % 2; b = n % 2 }))
    None

-- a ModRM byte: two bits, three and three. An SIB byte has the same fields: scale, index and base.
pub record ModRm : Type 0 where
  pub mode : ℕ
  pub reg : ℕ
  pub rm : ℕ

unfoldable pub mod_rm : ℕ → ModRm
mod_rm n = record { mode = n / 64; reg = n / 8 % 8; rm = n % 8 }

-- the register of a field of three bits with the bit of the prefix that extends it
unfoldable pub extended : ℕ → ℕ → Option Register
extended bit field = register (bit * 8 + field)

-- ---- numbers, the lowest byte first

abbrev pub int_8 : List ℕ → Read ℕ
int_8 (a ∷ rest) = Some (a, rest)
int_8 _ = None

abbrev pub int_32 : List ℕ → Read ℤ
int_32 (a ∷ b ∷ c ∷ d ∷ rest) = Some (cast_signed w32 (from_le_bytes w32 (a ∷ b ∷ c ∷ d ∷ [])), rest)
int_32 _ = None

abbrev pub int_64 : List ℕ → Read ℕ
int_64 (a ∷ b ∷ c ∷ d ∷ e ∷ f ∷ g ∷ h ∷ rest) = Some (from_le_bytes w64 (a ∷ b ∷ c ∷ d ∷ e ∷ f ∷ g ∷ h ∷ []), rest)
int_64 _ = None

-- ---- what a ModRM byte says of its operand r/m (tables 2-2 and 2-3)

pub data Operand : Type 0 where
  InRegister : (r : Register) → Operand
  InMemory : (a : Address) → Operand

abbrev pub in_register : List ℕ → Option Register → Read Operand
in_register rest r = and_then r (λ q. Some (InRegister q, rest))

abbrev pub based : List ℕ → Option Register → Read Operand
based rest r = and_then r (λ q. and_then (int_32 rest) (λ d. Some (InMemory (Based q d.0), d.1)))

abbrev pub absolute : List ℕ → Read Operand
absolute rest = and_then (int_32 rest) (λ d. Some (InMemory (Absolute d.0), d.1))

-- Mod 2 and r/m 4 is an address from the base of the SIB byte, with a displacement of 32 bits; mod 0, r/m 4 and base 5
-- is the displacement alone. Index 4 is none.
abbrev pub by_sib : Rex → ℕ → ModRm → List ℕ → Read Operand
by_sib p mode s rest =
    cond (s.mode == 0)
    (cond (p.x * 8 + s.reg == 4)
    (cond (mode == 2) (based rest (extended p.b s.rm))
    (cond (mode == 0) (cond (p.b * 8 + s.rm == 5) (absolute rest) None) None))
    None)
    None

abbrev pub with_sib : Rex → ℕ → List ℕ → Read Operand
with_sib p mode (s ∷ rest) = by_sib p mode (mod_rm s) rest
with_sib p mode [] = None

-- Mod 3 is a register. Mod 2 is an address from a register, with a displacement of 32 bits, but r/m 4 is for SIB.
abbrev pub operand : Rex → ModRm → List ℕ → Read Operand
operand p m rest =
    cond (m.mode == 3) (in_register rest (extended p.b m.rm))
    (cond (m.rm == 4) (with_sib p m.mode rest)
    (cond (m.mode == 2) (based rest (extended p.b m.rm)) None))

-- ---- opcodes

-- what was found: an instruction, and the bytes behind it
abbrev pub Found : Type 0
Found = Read Instr

-- an opcode with a ModRM byte that takes REX.W
pub data Opcode : Type 0 where
  OpRmReg : (o : Op) → Opcode
  OpRmInt : Opcode
  TestRmReg : Opcode
  MovRmReg : Opcode
  MovRegRm : Opcode
  LeaRegM : Opcode
  ShiftRmInt : Opcode
  MovRmInt : Opcode
  ImulRegRm : Opcode
  JmpRm : Opcode

abbrev pub opcode : ℕ → Option Opcode
opcode n =
    entry n ((0x01, OpRmReg Add)  -- REX.W + 01 /r: ADD r/m64, r64
    ∷ (0x09, OpRmReg Or)  -- REX.W + 09 /r: OR r/m64, r64
    ∷ (0x21, OpRmReg And)  -- REX.W + 21 /r: AND r/m64, r64
    ∷ (0x29, OpRmReg Sub)  -- REX.W + 29 /r: SUB r/m64, r64
    ∷ (0x39, OpRmReg Cmp)  -- REX.W + 39 /r: CMP r/m64, r64
    ∷ (0x81, OpRmInt)  -- REX.W + 81 /0 id: ADD r/m64, imm32; /1 OR, /4 AND, /5 SUB, /7 CMP
    ∷ (0x85, TestRmReg)  -- REX.W + 85 /r: TEST r/m64, r64
    ∷ (0x89, MovRmReg)  -- REX.W + 89 /r: MOV r/m64, r64
    ∷ (0x8B, MovRegRm)  -- REX.W + 8B /r: MOV r64, r/m64
    ∷ (0x8D, LeaRegM)  -- REX.W + 8D /r: LEA r64, m
    ∷ (0xC1, ShiftRmInt)  -- REX.W + C1 /4 ib: SHL r/m64, imm8; /5 SHR
    ∷ (0xC7, MovRmInt)  -- REX.W + C7 /0 id: MOV r/m64, imm32
    ∷ [])

-- The instruction of an opcode. The number n is the field reg of its ModRM byte with REX.R before it.
abbrev pub instr : Opcode → ℕ → Operand → List ℕ → Found
instr (OpRmReg o) n (InRegister q) rest = and_then (register n) (λ r. Some (Arith o q (Reg r), rest))
instr OpRmInt n (InRegister q) rest =
    and_then (op n) (λ o. and_then (int_32 rest) (λ i. Some (Arith o q (Int i.0), i.1)))
instr TestRmReg n (InRegister q) rest = and_then (register n) (λ r. Some (Test q r, rest))
instr MovRmReg n (InRegister q) rest = and_then (register n) (λ r. Some (Mov q (Reg r), rest))
instr MovRmReg n (InMemory a) rest = and_then (register n) (λ r. Some (Store a r, rest))
instr MovRegRm n (InMemory a) rest = and_then (register n) (λ r. Some (Load r a, rest))
instr LeaRegM n (InMemory a) rest = and_then (register n) (λ r. Some (Lea r a, rest))
instr ShiftRmInt n (InRegister q) rest =
    and_then (shift n) (λ s. and_then (int_8 rest) (λ k. Some (Shift s q k.0, k.1)))
instr MovRmInt n (InRegister q) rest =
    cond (n == 0) (and_then (int_32 rest) (λ i. Some (Mov q (Int i.0), i.1))) None
instr ImulRegRm n (InRegister q) rest = and_then (register n) (λ r. Some (Imul r q, rest))
instr JmpRm n (InRegister q) rest = cond (n == 4) (Some (JmpReg q, rest)) None
instr _ n _ rest = None

abbrev pub with_operand : Opcode → ℕ → Read Operand → Found
with_operand o n found = and_then found (λ x. instr o n x.0 x.1)

abbrev pub with_fields : Opcode → Rex → ModRm → List ℕ → Found
with_fields o p m rest = with_operand o (p.r * 8 + m.reg) (operand p m rest)

abbrev pub with_mod_rm : Rex → List ℕ → Option Opcode → Found
with_mod_rm p (m ∷ rest) (Some o) = with_fields o p (mod_rm m) rest
with_mod_rm p _ _ = None

-- REX.W + B8+ rd io: MOV r64, imm64
abbrev pub const : Option Register → List ℕ → Found
const r rest = and_then r (λ q. and_then (int_64 rest) (λ i. Some (Const q i.0, i.1)))

-- REX.W + 0F AF /r: IMUL r64, r/m64
abbrev pub wide_0f : Rex → List ℕ → Found
wide_0f p (c ∷ rest) = with_mod_rm p rest (cond (c == 0xAF) (Some ImulRegRm) None)
wide_0f p [] = None

-- behind a prefix with W
abbrev pub wide : Rex → List ℕ → Found
wide p (c ∷ rest) =
    elim (c / 8 == 0xB8 / 8) [
      | true ↦ const (extended p.b (c % 8)) rest
      | false ↦ elim (c == 0x0F) [ true ↦ wide_0f p rest | false ↦ with_mod_rm p rest (opcode c) ]
    ]
wide p [] = None

-- behind a prefix without W. FF /4: JMP r/m64
abbrev pub narrow : Rex → List ℕ → Found
narrow p (c ∷ rest) = with_mod_rm p rest (cond (c == 0xFF) (Some JmpRm) None)
narrow p [] = None

-- 0F 05: SYSCALL. 0F 80+cc cd: Jcc rel32
abbrev pub plain_0f : List ℕ → Found
plain_0f (c ∷ rest) =
    cond (c == 0x05) (Some (Syscall, rest))
    (cond (c / 16 == 8) (and_then (condition (c % 16)) (λ e. and_then (int_32 rest) (λ d. Some (Jcc e d.0, d.1)))) None)
plain_0f [] = None

-- with no prefix. E9 cd: JMP rel32
abbrev pub plain : ℕ → List ℕ → Found
plain c rest =
    cond (c == 0xE9) (and_then (int_32 rest) (λ d. Some (Jmp d.0, d.1))) (cond (c == 0x0F) (plain_0f rest) None)

abbrev pub prefixed : Option Rex → ℕ → List ℕ → Found
prefixed None n rest = plain n rest
prefixed (Some p) n rest = cond (p.w == 1) (wide p rest) (narrow p rest)

-- ---- the instruction at the head of the bytes, and the bytes behind it
abbrev pub read : List ℕ → Found
read [] = None
read (n ∷ rest) = prefixed (rex n) n rest

-- the instruction at the head of the bytes, and its length
abbrev pub decode : List ℕ → Option (Instr × ℕ)
decode bytes = and_then (read bytes) (λ x. Some (x.0, length bytes - length x.1))

-- the same at a place of the code, which counts from 0
abbrev pub decode_at : List ℕ → ℕ → Option (Instr × ℕ)
decode_at code n = decode (drop n code)
