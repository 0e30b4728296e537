-- The numbers by which code names registers, operations, shifts and conditions.
use Rattle.std.specs.Prelude.{ℕ, Bool, ◌==◌, Option, Some, None, List, [], ◌∷◌, cond}
use Rattle.x_terms.specs.declared.register.Register.{Register}
use Rattle.x_terms.specs.declared.register.Register.TheVariants.{Rax, Rcx, Rdx, Rbx, Rbp, Rsi, Rdi}
use Rattle.x_terms.specs.declared.register.Register.TheVariants.{R8, R9, R10, R11, R12, R13, R14, R15}
use Rattle.x_terms.specs.declared.instr.Op.{Op}
use Rattle.x_terms.specs.declared.instr.Op.TheVariants.{Add, Or, And, Sub, Cmp}
use Rattle.x_terms.specs.declared.instr.Shift.{Shift}
use Rattle.x_terms.specs.declared.instr.Shift.TheVariants.{Shl, Shr}
use Rattle.x_terms.specs.declared.instr.Condition.{Condition}
use Rattle.x_terms.specs.declared.instr.Condition.TheVariants.{B, Ae, E, Ne, Be, A}

-- Intel's manual, volume 2, table 3-1 (columns "quadword register", with REX). Number 4 is the stack pointer.
abbrev pub number : Register → ℕ
number Rax = 0
number Rcx = 1
number Rdx = 2
number Rbx = 3
number Rbp = 5
number Rsi = 6
number Rdi = 7
number R8 = 8
number R9 = 9
number R10 = 10
number R11 = 11
number R12 = 12
number R13 = 13
number R14 = 14
number R15 = 15

-- both are one register
abbrev pub same : Register → Register → Bool
same r q = number r == number q

-- the number of an operation: /0 to /7 of opcode 81 (manual, "Immediate Group 1" of table A-6)
abbrev pub op_number : Op → ℕ
op_number Add = 0
op_number Or = 1
op_number And = 4
op_number Sub = 5
op_number Cmp = 7

-- the number of a shift: /4 and /5 of opcode C1 ("Shift Group 2" of table A-6)
abbrev pub shift_number : Shift → ℕ
shift_number Shl = 4
shift_number Shr = 5

-- the number of a condition: the last four bits of opcode 0F 8x (appendix B, table B-10)
abbrev pub condition_number : Condition → ℕ
condition_number B = 2
condition_number Ae = 3
condition_number E = 4
condition_number Ne = 5
condition_number Be = 6
condition_number A = 7

-- what a table has for a number
abbrev pub entry : {T : Type 0} → ℕ → List (ℕ × T) → Option T
entry n [] = None
entry n (x ∷ xs) = cond (n == x.0) (Some x.1) (entry n xs)

-- the same from numbers: number 4 is no register here
unfoldable pub register : ℕ → Option Register
register n =
    entry n ((0, Rax) ∷ (1, Rcx) ∷ (2, Rdx) ∷ (3, Rbx) ∷ (5, Rbp) ∷ (6, Rsi) ∷ (7, Rdi) ∷ (8, R8) ∷ (9, R9) ∷ (10, R10)
    ∷ (11, R11) ∷ (12, R12) ∷ (13, R13) ∷ (14, R14) ∷ (15, R15) ∷ [])

unfoldable pub op : ℕ → Option Op
op n = entry n ((0, Add) ∷ (1, Or) ∷ (4, And) ∷ (5, Sub) ∷ (7, Cmp) ∷ [])

unfoldable pub shift : ℕ → Option Shift
shift n = entry n ((4, Shl) ∷ (5, Shr) ∷ [])

unfoldable pub condition : ℕ → Option Condition
condition n = entry n ((2, B) ∷ (3, Ae) ∷ (4, E) ∷ (5, Ne) ∷ (6, Be) ∷ (7, A) ∷ [])
