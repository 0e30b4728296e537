-- Worked examples. First: a program of word code that sums 3, 2 and 1 onto 6, with one register in RBX and one in a
-- slot; its code, which `objdump` shows as is said beside it, and how it runs.
use Rattle.std.proofs.Common.{◌≡◌, ℕ, zero, suc, ◌==◌, cond, List, [], ◌∷◌, None, refl, pos}
use Rattle.x_terms.specs.Numbers.{register, op, condition}
use Rattle.x_terms.specs.Decode.{rex, mod_rm, extended}
use Rattle.x_terms.specs.Machine.{Image, State, Answer, Wrote, Exits, run}
use Rattle.x_terms.specs.declared.register.Register.TheVariants.{Rbx, R8}
use Rattle.x_code.specs.Bytes.{prefix, fields}
use Rattle.x_laws.specs.Homes.{Home, InRegister, InSlot}
use Rattle.x_laws.specs.Layout.{program_code}
use Rattle.w_terms.specs.Tree.{WSeq, WThen, WConst, WArith, WBranch, WWrite, WJump, WExit}
use Rattle.w_terms.specs.declared.instr.WOp.TheVariants.{Add, Sub}
use Rattle.w_terms.specs.declared.instr.WCond.TheVariants.{Differ}
use Rattle.w_terms.specs.declared.instr.WOperand.TheVariants.{Reg, Num}

abbrev homes : ℕ → Home
homes zero = InRegister Rbx
homes (suc q) = InSlot (pos 0x600000)

abbrev blocks : List WSeq
blocks =
    WThen (WConst 1 6) (WThen (WConst 0 3) (WJump 1))
    ∷ WThen (WArith Add 1 1 (Reg 0)) (WThen (WArith Sub 0 0 (Num 1)) (WThen (WBranch Differ 0 (Num 0) 1) (WExit 9)))
    ∷ []

-- movabs rax,6; mov [0x600000],rax; movabs rbx,3; jmp; mov rax,[0x600000]; add rax,rbx; mov [0x600000],rax; sub rbx,1;
-- cmp rbx,0; jne; movabs rdi,9; movabs rax,60; syscall
abbrev code : List ℕ
code =
    0x48 ∷ 0xB8 ∷ 0x06 ∷ 0x00 ∷ 0x00 ∷ 0x00 ∷ 0x00 ∷ 0x00 ∷ 0x00 ∷ 0x00
    ∷ 0x48 ∷ 0x89 ∷ 0x04 ∷ 0x25 ∷ 0x00 ∷ 0x00 ∷ 0x60 ∷ 0x00
    ∷ 0x48 ∷ 0xBB ∷ 0x03 ∷ 0x00 ∷ 0x00 ∷ 0x00 ∷ 0x00 ∷ 0x00 ∷ 0x00 ∷ 0x00
    ∷ 0xE9 ∷ 0x00 ∷ 0x00 ∷ 0x00 ∷ 0x00
    ∷ 0x48 ∷ 0x8B ∷ 0x04 ∷ 0x25 ∷ 0x00 ∷ 0x00 ∷ 0x60 ∷ 0x00
    ∷ 0x48 ∷ 0x01 ∷ 0xD8
    ∷ 0x48 ∷ 0x89 ∷ 0x04 ∷ 0x25 ∷ 0x00 ∷ 0x00 ∷ 0x60 ∷ 0x00
    ∷ 0x48 ∷ 0x81 ∷ 0xEB ∷ 0x01 ∷ 0x00 ∷ 0x00 ∷ 0x00
    ∷ 0x48 ∷ 0x81 ∷ 0xFB ∷ 0x00 ∷ 0x00 ∷ 0x00 ∷ 0x00
    ∷ 0x0F ∷ 0x85 ∷ 0xD9 ∷ 0xFF ∷ 0xFF ∷ 0xFF
    ∷ 0x48 ∷ 0xBF ∷ 0x09 ∷ 0x00 ∷ 0x00 ∷ 0x00 ∷ 0x00 ∷ 0x00 ∷ 0x00 ∷ 0x00
    ∷ 0x48 ∷ 0xB8 ∷ 0x3C ∷ 0x00 ∷ 0x00 ∷ 0x00 ∷ 0x00 ∷ 0x00 ∷ 0x00 ∷ 0x00
    ∷ 0x0F ∷ 0x05 ∷ []

code_is : program_code homes 0x400000 blocks ≡ code
unfolding prefix fields
code_is = refl

abbrev image : Image
image = record { code = code; code_at = 0x400000; data_at = 0x600000; data_end = 0x600008 }

abbrev begin : State
begin = record { registers = λ r. 0; flags = None; memory = λ a. 0; place = 0x400000; calls = [] }

-- 4 instructions, 3 turns of 6, and 3
ends_with_9 : (world : ℕ → Answer) → run image world 25 begin ≡ Exits 9 []
unfolding rex mod_rm extended register op condition
ends_with_9 world = refl

-- A program that writes three bytes: the system takes two of them and then one, or none.
abbrev two : ℕ → Home
two zero = InRegister Rbx
two (suc q) = InRegister R8

abbrev writes : List WSeq
writes = WThen (WConst 0 0x600000) (WThen (WConst 1 3) (WThen (WWrite 1 0 1) (WExit 0))) ∷ []

abbrev writing : Image
writing = record {
  code = program_code two 0x400000 writes;
  code_at = 0x400000;
  data_at = 0x600000;
  data_end = 0x600008;
}

abbrev begin_writing : State
begin_writing = record { registers = λ r. 0; flags = None; memory = λ a. 0x636261; place = 0x400000; calls = [] }

abbrev in_parts : ℕ → Answer
in_parts k = record { result = cond (k == 0) 2 1; r11 = 0 }

all_is_taken : run writing in_parts 26 begin_writing ≡ Exits 0 (Wrote 1 (0x63 ∷ []) ∷ Wrote 1 (0x61 ∷ 0x62 ∷ []) ∷ [])
unfolding prefix fields rex mod_rm extended register op condition
all_is_taken = refl

none_is_taken : run writing (λ k. record { result = 0; r11 = 0 }) 13 begin_writing ≡ Exits 6 (Wrote 1 [] ∷ [])
unfolding prefix fields rex mod_rm extended register op condition
none_is_taken = refl
