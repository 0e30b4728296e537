-- Worked examples: bytes that GNU as makes of a line of assembly, and what is read there; a program that ends with 7.
use Rattle.std.proofs.Common.{◌≡◌, ℕ, [], ◌∷◌, Some, None, refl, pos, negsuc}
use Rattle.x_terms.specs.Numbers.{register, op, shift, condition}
use Rattle.x_terms.specs.Decode.{rex, mod_rm, extended, decode}
use Rattle.x_terms.specs.Machine.{Image, State, Answer, Exits, run}
use Rattle.x_terms.specs.declared.register.Register.TheVariants.{Rax, Rcx, Rdx, Rbx, Rbp, Rsi, Rdi}
use Rattle.x_terms.specs.declared.register.Register.TheVariants.{R8, R9, R10, R11, R12, R13, R14, R15}
use Rattle.x_terms.specs.declared.instr.Op.TheVariants.{Add, Or, And, Sub, Cmp}
use Rattle.x_terms.specs.declared.instr.Shift.TheVariants.{Shl, Shr}
use Rattle.x_terms.specs.declared.instr.Condition.TheVariants.{Ne}
use Rattle.x_terms.specs.declared.instr.Source.TheVariants.{Reg, Int}
use Rattle.x_terms.specs.declared.instr.Address.TheVariants.{Absolute, Based}
use Rattle.x_terms.specs.declared.instr.Instr.TheVariants.{Const, Mov, Load, Store, Lea, Arith, Imul}
use Rattle.x_terms.specs.declared.instr.Instr.TheVariants.{Shift as ShiftBy, Test, Jmp, Jcc, JmpReg, Syscall}

-- mov rbx, rax
row_0 : decode (0x48 ∷ 0x89 ∷ 0xC3 ∷ []) ≡ Some (Mov Rbx (Reg Rax), 3)
unfolding rex mod_rm extended register op shift condition
row_0 = refl

-- mov r13, r8
row_1 : decode (0x4D ∷ 0x89 ∷ 0xC5 ∷ []) ≡ Some (Mov R13 (Reg R8), 3)
unfolding rex mod_rm extended register op shift condition
row_1 = refl

-- mov rdi, 0x12345678
row_2 : decode (0x48 ∷ 0xC7 ∷ 0xC7 ∷ 0x78 ∷ 0x56 ∷ 0x34 ∷ 0x12 ∷ []) ≡ Some (Mov Rdi (Int (pos 0x12345678)), 7)
unfolding rex mod_rm extended register op shift condition
row_2 = refl

-- mov r9, -2
row_3 : decode (0x49 ∷ 0xC7 ∷ 0xC1 ∷ 0xFE ∷ 0xFF ∷ 0xFF ∷ 0xFF ∷ []) ≡ Some (Mov R9 (Int (negsuc 1)), 7)
unfolding rex mod_rm extended register op shift condition
row_3 = refl

-- movabs r15, 0x123456789abcdef0
row_4 : decode (0x49 ∷ 0xBF ∷ 0xF0 ∷ 0xDE ∷ 0xBC ∷ 0x9A ∷ 0x78 ∷ 0x56 ∷ 0x34 ∷ 0x12 ∷ [])
    ≡ Some (Const R15 0x123456789ABCDEF0, 10)
unfolding rex mod_rm extended register op shift condition
row_4 = refl

-- mov rax, [rbx + 0x100]
row_5 : decode (0x48 ∷ 0x8B ∷ 0x83 ∷ 0x00 ∷ 0x01 ∷ 0x00 ∷ 0x00 ∷ []) ≡ Some (Load Rax (Based Rbx (pos 0x100)), 7)
unfolding rex mod_rm extended register op shift condition
row_5 = refl

-- mov r14, [r12 + 0x100]
row_6 : decode (0x4D ∷ 0x8B ∷ 0xB4 ∷ 0x24 ∷ 0x00 ∷ 0x01 ∷ 0x00 ∷ 0x00 ∷ []) ≡ Some (Load R14 (Based R12 (pos 0x100)), 8)
unfolding rex mod_rm extended register op shift condition
row_6 = refl

-- mov [rbp + 0x100], r11
row_7 : decode (0x4C ∷ 0x89 ∷ 0x9D ∷ 0x00 ∷ 0x01 ∷ 0x00 ∷ 0x00 ∷ []) ≡ Some (Store (Based Rbp (pos 0x100)) R11, 7)
unfolding rex mod_rm extended register op shift condition
row_7 = refl

-- mov rsi, [0x600000]
row_8 : decode (0x48 ∷ 0x8B ∷ 0x34 ∷ 0x25 ∷ 0x00 ∷ 0x00 ∷ 0x60 ∷ 0x00 ∷ [])
    ≡ Some (Load Rsi (Absolute (pos 0x600000)), 8)
unfolding rex mod_rm extended register op shift condition
row_8 = refl

-- lea rdx, [r13 - 0x100]
row_9 : decode (0x49 ∷ 0x8D ∷ 0x95 ∷ 0x00 ∷ 0xFF ∷ 0xFF ∷ 0xFF ∷ []) ≡ Some (Lea Rdx (Based R13 (negsuc 0xFF)), 7)
unfolding rex mod_rm extended register op shift condition
row_9 = refl

-- add rcx, 0x100
row_10 : decode (0x48 ∷ 0x81 ∷ 0xC1 ∷ 0x00 ∷ 0x01 ∷ 0x00 ∷ 0x00 ∷ []) ≡ Some (Arith Add Rcx (Int (pos 0x100)), 7)
unfolding rex mod_rm extended register op shift condition
row_10 = refl

-- sub r10, 0x100
row_11 : decode (0x49 ∷ 0x81 ∷ 0xEA ∷ 0x00 ∷ 0x01 ∷ 0x00 ∷ 0x00 ∷ []) ≡ Some (Arith Sub R10 (Int (pos 0x100)), 7)
unfolding rex mod_rm extended register op shift condition
row_11 = refl

-- cmp r8, 0x100
row_12 : decode (0x49 ∷ 0x81 ∷ 0xF8 ∷ 0x00 ∷ 0x01 ∷ 0x00 ∷ 0x00 ∷ []) ≡ Some (Arith Cmp R8 (Int (pos 0x100)), 7)
unfolding rex mod_rm extended register op shift condition
row_12 = refl

-- and rax, rbx
row_13 : decode (0x48 ∷ 0x21 ∷ 0xD8 ∷ []) ≡ Some (Arith And Rax (Reg Rbx), 3)
unfolding rex mod_rm extended register op shift condition
row_13 = refl

-- or r12, rdi
row_14 : decode (0x49 ∷ 0x09 ∷ 0xFC ∷ []) ≡ Some (Arith Or R12 (Reg Rdi), 3)
unfolding rex mod_rm extended register op shift condition
row_14 = refl

-- imul rsi, r9
row_15 : decode (0x49 ∷ 0x0F ∷ 0xAF ∷ 0xF1 ∷ []) ≡ Some (Imul Rsi R9, 4)
unfolding rex mod_rm extended register op shift condition
row_15 = refl

-- shl r8, 3
row_16 : decode (0x49 ∷ 0xC1 ∷ 0xE0 ∷ 0x03 ∷ []) ≡ Some (ShiftBy Shl R8 3, 4)
unfolding rex mod_rm extended register op shift condition
row_16 = refl

-- shr rcx, 63
row_17 : decode (0x48 ∷ 0xC1 ∷ 0xE9 ∷ 0x3F ∷ []) ≡ Some (ShiftBy Shr Rcx 63, 4)
unfolding rex mod_rm extended register op shift condition
row_17 = refl

-- test rdx, rdx
row_18 : decode (0x48 ∷ 0x85 ∷ 0xD2 ∷ []) ≡ Some (Test Rdx Rdx, 3)
unfolding rex mod_rm extended register op shift condition
row_18 = refl

-- jne, 0x1000 behind it
row_19 : decode (0x0F ∷ 0x85 ∷ 0x00 ∷ 0x10 ∷ 0x00 ∷ 0x00 ∷ []) ≡ Some (Jcc Ne (pos 0x1000), 6)
unfolding rex mod_rm extended register op shift condition
row_19 = refl

-- jmp, 0x1000 behind it
row_20 : decode (0xE9 ∷ 0x00 ∷ 0x10 ∷ 0x00 ∷ 0x00 ∷ []) ≡ Some (Jmp (pos 0x1000), 5)
unfolding rex mod_rm extended register op shift condition
row_20 = refl

-- jmp r11
row_21 : decode (0x41 ∷ 0xFF ∷ 0xE3 ∷ []) ≡ Some (JmpReg R11, 3)
unfolding rex mod_rm extended register op shift condition
row_21 = refl

-- syscall
row_22 : decode (0x0F ∷ 0x05 ∷ []) ≡ Some (Syscall, 2)
unfolding rex mod_rm extended register op shift condition
row_22 = refl

-- mov rsp, rax
row_23 : decode (0x48 ∷ 0x89 ∷ 0xC4 ∷ []) ≡ None
unfolding rex mod_rm extended register op shift condition
row_23 = refl

-- mov rax, [rsp + 0x100]
row_24 : decode (0x48 ∷ 0x8B ∷ 0x84 ∷ 0x24 ∷ 0x00 ∷ 0x01 ∷ 0x00 ∷ 0x00 ∷ []) ≡ None
unfolding rex mod_rm extended register op shift condition
row_24 = refl

-- push rax
row_25 : decode (0x50 ∷ []) ≡ None
unfolding rex mod_rm extended register op shift condition
row_25 = refl

-- mov rax, 60; mov rdi, 7; syscall
abbrev ends : Image
ends = record {
  code =
      0x48 ∷ 0xC7 ∷ 0xC0 ∷ 0x3C ∷ 0 ∷ 0 ∷ 0 ∷ 0x48 ∷ 0xC7 ∷ 0xC7 ∷ 0x07 ∷ 0 ∷ 0 ∷ 0 ∷ 0x0F ∷ 0x05 ∷ [];
  code_at = 0x400000;
  data_at = 0x600000;
  data_end = 0x600000;
}

abbrev begin : State
begin = record { registers = λ r. 0; flags = None; memory = λ a. 0; place = 0x400000; calls = [] }

ends_with_7 : (world : ℕ → Answer) → run ends world 3 begin ≡ Exits 7 []
unfolding rex mod_rm extended register op shift condition
ends_with_7 world = refl
