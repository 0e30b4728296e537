-- The instructions of a block of word code that stands at an address, where each label has a place.
use Rattle.std.specs.Prelude.{ℕ, ◌+◌, ◌-◌, nat_le, nat_eq, cond, ℤ, pos, negsuc, List, [], ◌∷◌, ◌++◌, length}
use Rattle.x_terms.specs.declared.register.Register.TheVariants.{Rax, Rcx, Rdx, Rsi, Rdi}
use Rattle.x_terms.specs.declared.instr.Op.TheVariants.{Add, Sub, Cmp}
use Rattle.x_terms.specs.declared.instr.Condition.{Condition}
use Rattle.x_terms.specs.declared.instr.Condition.TheVariants.{B, Ae, E, Ne}
use Rattle.x_terms.specs.declared.instr.Source.TheVariants.{Reg, Int}
use Rattle.x_terms.specs.declared.instr.Address.TheVariants.{Based}
use Rattle.x_terms.specs.declared.instr.Instr.{Instr}
use Rattle.x_terms.specs.declared.instr.Instr.TheVariants.{Const, Lea, Arith, Jmp, Jcc, JmpReg, Syscall}
use Rattle.x_laws.specs.Core.{bytes_all}
use Rattle.x_laws.specs.Homes.{Home}
use Rattle.x_laws.specs.Straight.{fetch, target, finish, hand, bring, right, bring_right, straight}
use Rattle.x_code.specs.Bytes.{bytes_of}
use Rattle.w_terms.specs.declared.instr.WOp.TheVariants as w
use Rattle.w_terms.specs.Tree.{WInstr, WPlace, WBranch, WWrite, WSeq, WThen, WJump, WGoto, WExit}
use Rattle.w_terms.specs.declared.instr.WCond.{WCond}
use Rattle.w_terms.specs.declared.instr.WCond.TheVariants as c
use Rattle.w_terms.specs.declared.instr.WOperand.{WOperand}

-- how a jump leads to an address from the one behind it
abbrev pub far : ℕ → ℕ → ℤ
far next to = cond (nat_le next to) (pos (to - next)) (negsuc (next - to - 1))

abbrev pub condition : WCond → Condition
condition c.Equal = E
condition c.Differ = Ne
condition c.Below = B
condition c.AtLeast = Ae

-- both operands of a comparison at hand, and the comparison
abbrev pub both : (ℕ → Home) → ℕ → WOperand → List Instr
both homes rs v = bring Rax (homes rs) ++ bring_right homes w.Sub v

abbrev pub compare : (ℕ → Home) → ℕ → WOperand → Instr
compare homes rs v = Arith Cmp (hand Rax (homes rs)) (right homes w.Sub v)

-- the end of the process with a status
abbrev pub leave : ℕ → List Instr
leave status = Const Rdi status ∷ Const Rax 60 ∷ Syscall ∷ []

-- what is written, and to which output: the address of the bytes, how many there are, and the output's number
abbrev pub written : (ℕ → Home) → ℕ → ℕ → ℕ → List Instr
written homes to ra rn = fetch Rsi (homes ra) ++ fetch Rdx (homes rn) ++ (Const Rdi to ∷ [])

-- The status with which a process ends where the system takes no byte of what is left, or answers with an error: 6 for
-- the standard output, as a failed write of a result; 7 for the error output, to which only want of memory is written.
abbrev pub write_failed : ℕ → ℕ
write_failed to = cond (nat_eq to 1) 6 7

-- The system is asked to take the bytes until it has taken all. Of an answer r to n bytes, r - 1 is below n exactly
-- where it took some, for 0 and errors come out as words above. EINTR is an error like the others: no signal has a
-- handler here, so no call of `write` is broken off with it.
abbrev pub asked : List Instr
asked = Const Rax 1 ∷ Syscall ∷ Lea Rcx (Based Rax (negsuc 0)) ∷ Arith Cmp Rcx (Reg Rdx) ∷ Jcc B (pos 22) ∷ []

abbrev pub asked_again : List Instr
asked_again =
    Arith Add Rsi (Reg Rax) ∷ Arith Sub Rdx (Reg Rax) ∷ Arith Cmp Rdx (Int (pos 0)) ∷ Jcc Ne (negsuc 68) ∷ []

abbrev pub write_loop : ℕ → List Instr
write_loop to = asked ++ leave (write_failed to) ++ asked_again

module _ (homes : ℕ → Home) (place : ℕ → ℕ) where
  -- an instruction at the address a
  abbrev pub instr_code : ℕ → WInstr → List Instr
  instr_code a (WPlace rd l) = Const (target (homes rd)) (place l) ∷ finish (homes rd)
  instr_code a (WBranch t rs v l) =
      both homes rs v
      ++ (compare homes rs v
      ∷ Jcc (condition t)
      (far (a + length (bytes_all (both homes rs v)) + length (bytes_of (compare homes rs v)) + 6) (place l)) ∷ [])
  instr_code a (WWrite to ra rn) = written homes to ra rn ++ write_loop to
  instr_code a i = straight homes i

  -- a sequence at the address a
  abbrev pub seq_code : ℕ → WSeq → List Instr
  seq_code a (WThen i c) = instr_code a i ++ seq_code (a + length (bytes_all (instr_code a i))) c
  seq_code a (WJump l) = Jmp (far (a + 5) (place l)) ∷ []
  seq_code a (WGoto q) = fetch Rax (homes q) ++ (JmpReg Rax ∷ [])
  seq_code a (WExit status) = leave status
