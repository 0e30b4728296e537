-- The machine: what each instruction does with registers, flags and memory. Whatever has no step here is stuck. Where
-- there is a step, the processor does just that, by Intel's manual, volume 2. It does more than is said here, but a
-- program that is never stuck asks for nothing else. What is left out, and why that is sound:
-- - Flags are CF and ZF alone, as the two words that were compared. They are known behind `cmp` and `test` only, and a
--   conditional jump elsewhere is stuck.
-- - Memory is that of the data, by words at multiples of 8. So code is neither read nor written, no access crosses a
--   page, and the order of bytes in a word matters to `write` alone.
-- - Code and data end below 2 ^ 46 (`Elf`). So all addresses are canonical, and the place does not wrap.
-- - No instruction names the stack pointer, and no signal has a handler, so nothing is put on the stack.
-- - Interrupts, page faults and other processes give registers and memory back as they were.
-- - A signal may end the process at any place, as that of a pipe which nobody reads does, or that of a machine without
--   memory. The process is then the front of a run.
-- - Nothing is said of time.
use Rattle.std.specs.Prelude.{ℕ, zero, suc, ◌+◌, ◌-◌, ◌*◌, ◌/◌, ◌%◌, ◌^◌, ◌==◌, nat_lt, nat_le, bit_and, bit_or}
use Rattle.std.specs.Prelude.{Bool, cond, ◌&&◌, ◌||◌, not, ℤ, List, [], ◌∷◌, length, Option, Some, None}
use Rattle.std.specs.Int.{w64, cast_unsigned}
use Rattle.x_terms.specs.Numbers.{same}
use Rattle.x_terms.specs.Decode.{decode_at}
use Rattle.x_terms.specs.declared.register.Register.{Register}
use Rattle.x_terms.specs.declared.register.Register.TheVariants.{Rax, Rcx, Rdx, Rsi, Rdi, R11}
use Rattle.x_terms.specs.declared.instr.Op.{Op}
use Rattle.x_terms.specs.declared.instr.Op.TheVariants.{Add, Or, And, Sub, Cmp}
use Rattle.x_terms.specs.declared.instr.Shift.{Shift as ShiftKind}
use Rattle.x_terms.specs.declared.instr.Shift.TheVariants.{Shl, Shr}
use Rattle.x_terms.specs.declared.instr.Condition.{Condition}
use Rattle.x_terms.specs.declared.instr.Condition.TheVariants.{B, Ae, E, Ne, Be, A}
use Rattle.x_terms.specs.declared.instr.Source.{Source}
use Rattle.x_terms.specs.declared.instr.Source.TheVariants.{Reg, Int}
use Rattle.x_terms.specs.declared.instr.Address.{Address}
use Rattle.x_terms.specs.declared.instr.Address.TheVariants.{Absolute, Based}
use Rattle.x_terms.specs.declared.instr.Instr.{Instr}
use Rattle.x_terms.specs.declared.instr.Instr.TheVariants.{Const, Mov, Load, Store, Lea, Arith, Imul}
use Rattle.x_terms.specs.declared.instr.Instr.TheVariants.{Shift as ShiftBy, Test, Jmp, Jcc, JmpReg, Syscall}

-- ---- words: numbers below 2 ^ 64

-- the word of an integer
abbrev pub word : ℤ → ℕ
word i = cast_unsigned w64 i

abbrev pub plus : ℕ → ℕ → ℕ
plus a b = (a + b) % 2 ^ 64

abbrev pub minus : ℕ → ℕ → ℕ
minus a b = (a + (2 ^ 64 - b)) % 2 ^ 64

abbrev pub times : ℕ → ℕ → ℕ
times a b = (a * b) % 2 ^ 64

-- ---- what stands where

-- The code, which begins at an address and is never written, and from where to where the data lie.
pub record Image : Type 0 where
  pub code : List ℕ
  pub code_at : ℕ
  pub data_at : ℕ
  pub data_end : ℕ

-- a word's address: a multiple of 8, and all eight bytes are data
abbrev pub is_word : Image → ℕ → Bool
is_word m a = a % 8 == 0 && nat_le m.data_at a && nat_le (a + 8) m.data_end

-- the bytes from a on are data; where there are none, a may be anything
abbrev pub are_bytes : Image → ℕ → ℕ → Bool
are_bytes m a count = count == 0 || (nat_le m.data_at a && nat_le (a + count) m.data_end)

-- a call of the system: bytes that were written to a file, by its number
pub data Call : Type 0 where
  Wrote : (file : ℕ) (bytes : List ℕ) → Call

-- The flags hold what two words were, whose comparison set them last, or are not known. The last of the calls comes
-- first.
pub record State : Type 0 where
  pub registers : Register → ℕ
  pub flags : Option (ℕ × ℕ)
  pub memory : ℕ → ℕ
  pub place : ℕ
  pub calls : List Call

-- What the system answers a call: the result, and what it leaves in R11. Of both the last 64 bits count, as registers
-- hold no more.
pub record Answer : Type 0 where
  pub result : ℕ
  pub r11 : ℕ

pub data Outcome : Type 0 where
  Next : (s : State) → Outcome
  Exits : (status : ℕ) (calls : List Call) → Outcome
  Stuck : Outcome

-- ---- operands

abbrev pub with_register : (Register → ℕ) → Register → ℕ → Register → ℕ
with_register g r w q = cond (same r q) w (g q)

abbrev pub source : (Register → ℕ) → Source → ℕ
source g (Reg r) = g r
source g (Int i) = word i

abbrev pub address : (Register → ℕ) → Address → ℕ
address g (Absolute d) = word d
address g (Based r d) = plus (g r) (word d)

abbrev pub with_word : (ℕ → ℕ) → ℕ → ℕ → ℕ → ℕ
with_word m a w b = cond (a == b) w (m b)

-- a byte of a word of memory, the lowest first
abbrev pub byte : (ℕ → ℕ) → ℕ → ℕ
byte m a = m (a - a % 8) / 256 ^ (a % 8) % 256

abbrev pub bytes : (ℕ → ℕ) → ℕ → ℕ → List ℕ
bytes m a zero = []
bytes m a (suc n) = byte m a ∷ bytes m (suc a) n

-- ---- steps

-- What a condition says of the two words (appendix B): CF is that the first is below the second, ZF that they are one.
abbrev pub holds : Condition → ℕ → ℕ → Bool
holds B a b = nat_lt a b
holds Ae a b = not (nat_lt a b)
holds E a b = a == b
holds Ne a b = not (a == b)
holds Be a b = not (nat_lt b a)
holds A a b = nat_lt b a

-- the operation on a register and a word
abbrev pub after_op : Op → (Register → ℕ) → Register → ℕ → Register → ℕ
after_op Add g q b = with_register g q (plus (g q) b)
after_op Or g q b = with_register g q (bit_or (g q) b)
after_op And g q b = with_register g q (bit_and (g q) b)
after_op Sub g q b = with_register g q (minus (g q) b)
after_op Cmp g q b = g

-- the flags that it leaves: those of `cmp` alone are kept
abbrev pub op_flags : Op → ℕ → ℕ → Option (ℕ × ℕ)
op_flags Cmp a b = Some (a, b)
op_flags _ a b = None

-- the six bits of the number that the processor reads
abbrev pub shifted : ShiftKind → ℕ → ℕ → ℕ
shifted Shl a k = (a * 2 ^ (k % 64)) % 2 ^ 64
shifted Shr a k = a / 2 ^ (k % 64)

-- the state at the place n with these registers and flags, and with a word in the memory
abbrev pub moved : State → ℕ → (Register → ℕ) → Option (ℕ × ℕ) → State
moved s n g f = record s { registers = g; flags = f; place = n }

abbrev pub stored : State → ℕ → ℕ → ℕ → State
stored s n a w = record s { memory = with_word s.memory a w; flags = None; place = n }

-- a word goes to a register, and the flags are known no more
abbrev pub put : State → ℕ → Register → ℕ → Outcome
put s n r w = Next (moved s n (with_register s.registers r w) None)

-- a jump
abbrev pub jump : State → ℕ → Outcome
jump s n = Next (moved s n s.registers None)

abbrev pub jump_if : State → ℕ → ℕ → Condition → Option (ℕ × ℕ) → Outcome
jump_if s n to e None = Stuck
jump_if s n to e (Some f) = jump s (cond (holds e f.0 f.1) to n)

-- the result as a register has it
abbrev pub result : Answer → ℕ
result w = w.result % 2 ^ 64

-- Linux: call 1 writes RDX bytes from RSI on to the file RDI and gives how many it took, or an error, which is more
-- than there were; call 60 ends the process. A call leaves the place behind it in RCX.
abbrev pub write : Image → Answer → State → ℕ → Outcome
write m w s n =
    cond ((s.registers Rdi == 1 || s.registers Rdi == 2) && are_bytes m (s.registers Rsi) (s.registers Rdx))
    (Next (record s {
      registers = with_register (with_register (with_register s.registers Rax (result w)) Rcx n) R11 (w.r11 % 2 ^ 64);
      flags = None;
      place = n;
      calls =
          Wrote (s.registers Rdi)
          (cond (nat_le (result w) (s.registers Rdx)) (bytes s.memory (s.registers Rsi) (result w)) []) ∷ s.calls;
    }))
    Stuck

abbrev pub call : Image → Answer → State → ℕ → Outcome
call m w s n =
    cond (s.registers Rax == 1) (write m w s n)
    (cond (s.registers Rax == 60) (Exits (s.registers Rdi % 256) s.calls) Stuck)

-- what an instruction does, where the next one stands at n
abbrev pub effect : Image → Answer → State → ℕ → Instr → Outcome
effect m w s n (Const r i) = put s n r i
effect m w s n (Mov r v) = put s n r (source s.registers v)
effect m w s n (Load r a) =
    cond (is_word m (address s.registers a)) (put s n r (s.memory (address s.registers a))) Stuck
effect m w s n (Store a r) =
    cond (is_word m (address s.registers a)) (Next (stored s n (address s.registers a) (s.registers r))) Stuck
effect m w s n (Lea r a) = put s n r (address s.registers a)
effect m w s n (Arith o r v) =
    Next (moved s n (after_op o s.registers r (source s.registers v))
    (op_flags o (s.registers r) (source s.registers v)))
effect m w s n (Imul r q) = put s n r (times (s.registers r) (s.registers q))
effect m w s n (ShiftBy k r i) = put s n r (shifted k (s.registers r) i)
effect m w s n (Test r q) = Next (moved s n s.registers (Some (bit_and (s.registers r) (s.registers q), 0)))
effect m w s n (Jmp d) = jump s (plus n (word d))
effect m w s n (Jcc e d) = jump_if s n (plus n (word d)) e s.flags
effect m w s n (JmpReg r) = jump s (s.registers r)
effect m w s n Syscall = call m w s n

-- the instruction at an address, and its length
abbrev pub fetch : Image → ℕ → Option (Instr × ℕ)
fetch m a = cond (nat_le m.code_at a) (decode_at m.code (a - m.code_at)) None

abbrev pub fetched : Image → Answer → State → Option (Instr × ℕ) → Outcome
fetched m w s None = Stuck
fetched m w s (Some x) = effect m w s (s.place + x.1) x.0

-- one step, where the system answers so
abbrev pub step : Image → Answer → State → Outcome
step m w s = fetched m w s (fetch m s.place)

-- ---- runs

abbrev pub after : Outcome → (State → Outcome) → Outcome
after (Next s) f = f s
after (Exits status calls) f = Exits status calls
after Stuck f = Stuck

-- after so many steps, where `world n` answers call n, which counts from 0
abbrev pub run : Image → (ℕ → Answer) → ℕ → State → Outcome
run m world zero s = Next s
run m world (suc k) s = after (step m (world (length s.calls)) s) (run m world k)
