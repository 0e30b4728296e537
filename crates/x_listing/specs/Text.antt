-- Instructions of the processor as text, in Intel's syntax, just as `objdump -d -M intel` writes them.
use Rattle.std.specs.Prelude.{ℕ, suc, ◌+◌, ◌-◌, ◌/◌, ◌%◌, ℤ, pos, negsuc, List, [], ◌∷◌, ◌++◌, length, replicate}
use Rattle.std.specs.Prelude.{codes, cond, false, nat_lt}
use Rattle.std.specs.Fmt.{digits, digit_glyph}
use Rattle.x_terms.specs.Machine.{word, plus}
use Rattle.x_terms.specs.Numbers.{number as number_of}
use Rattle.x_terms.specs.declared.register.Register.{Register}
use Rattle.x_terms.specs.declared.register.Register.TheVariants.{Rax, Rcx, Rdx, Rbx, Rbp, Rsi, Rdi}
use Rattle.x_terms.specs.declared.register.Register.TheVariants.{R8, R9, R10, R11, R12, R13, R14, R15}
use Rattle.x_terms.specs.declared.instr.Op.{Op}
use Rattle.x_terms.specs.declared.instr.Op.TheVariants.{Add, Or, And, Sub, Cmp}
use Rattle.x_terms.specs.declared.instr.Shift.{Shift as ShiftKind}
use Rattle.x_terms.specs.declared.instr.Shift.TheVariants.{Shl, Shr}
use Rattle.x_terms.specs.declared.instr.Condition.{Condition}
use Rattle.x_terms.specs.declared.instr.Condition.TheVariants.{B, Ae, E, Ne, Be, A}
use Rattle.x_terms.specs.declared.instr.Source.{Source}
use Rattle.x_terms.specs.declared.instr.Source.TheVariants.{Reg, Int}
use Rattle.x_terms.specs.declared.instr.Address.{Address}
use Rattle.x_terms.specs.declared.instr.Address.TheVariants.{Absolute, Based}
use Rattle.x_terms.specs.declared.instr.Instr.{Instr}
use Rattle.x_terms.specs.declared.instr.Instr.TheVariants.{Const, Mov, Load, Store, Lea, Arith, Imul}
use Rattle.x_terms.specs.declared.instr.Instr.TheVariants.{Shift, Test, Jmp, Jcc, JmpReg, Syscall}

-- ---- numbers

-- in hexadecimal, with the letters a to f
abbrev pub hex : ℕ → List ℕ
hex n = digits 16 false n

abbrev pub number : ℕ → List ℕ
number n = codes "0x" ++ hex n

-- as wide as this, with these signs in front
abbrev pub wide : (width sign : ℕ) → List ℕ → List ℕ
wide width sign text = replicate (width - length text) sign ++ text

-- bytes, each with two digits and a space behind it
abbrev pub bytes_text : List ℕ → List ℕ
bytes_text [] = []
bytes_text (b ∷ bs) = digit_glyph false (b / 16) ∷ (digit_glyph false (b % 16) ∷ (32 ∷ bytes_text bs))

-- ---- operands

abbrev pub register : Register → List ℕ
register Rax = codes "rax"
register Rcx = codes "rcx"
register Rdx = codes "rdx"
register Rbx = codes "rbx"
register Rbp = codes "rbp"
register Rsi = codes "rsi"
register Rdi = codes "rdi"
register R8 = codes "r8"
register R9 = codes "r9"
register R10 = codes "r10"
register R11 = codes "r11"
register R12 = codes "r12"
register R13 = codes "r13"
register R14 = codes "r14"
register R15 = codes "r15"

abbrev pub source : Source → List ℕ
source (Reg r) = register r
source (Int i) = number (word i)

-- how far an address is from a register
abbrev pub offset : ℤ → List ℕ
offset (pos n) = codes "+" ++ number n
offset (negsuc n) = codes "-" ++ number (suc n)

abbrev pub address : Address → List ℕ
address (Absolute d) = codes "ds:" ++ number (word d)
address (Based r d) = codes "[" ++ (register r ++ (offset d ++ codes "]"))

-- the word at an address
abbrev pub memory : Address → List ℕ
memory a = codes "QWORD PTR " ++ address a

-- ---- instructions: a name of six letters and a space, and the operands

abbrev pub op : Op → List ℕ
op Add = codes "add    "
op Or = codes "or     "
op And = codes "and    "
op Sub = codes "sub    "
op Cmp = codes "cmp    "

abbrev pub shift : ShiftKind → List ℕ
shift Shl = codes "shl    "
shift Shr = codes "shr    "

abbrev pub jump_if : Condition → List ℕ
jump_if B = codes "jb     "
jump_if Ae = codes "jae    "
jump_if E = codes "je     "
jump_if Ne = codes "jne    "
jump_if Be = codes "jbe    "
jump_if A = codes "ja     "

-- a jump to where a register leads: of the first eight the prefix says nothing, and is shown
abbrev pub jump_to : Register → List ℕ
jump_to r = cond (nat_lt (number_of r) 8) (codes "rex jmp ") (codes "jmp    ")

-- two operands, the one that is written to first
abbrev pub two : List ℕ → List ℕ → List ℕ
two a b = a ++ (codes "," ++ b)

-- An instruction behind which the next one is at this address. A jump is shown with the address that it leads to.
abbrev pub instr : ℕ → Instr → List ℕ
instr next (Const r n) = codes "movabs " ++ two (register r) (number n)
instr next (Mov r s) = codes "mov    " ++ two (register r) (source s)
instr next (Load r a) = codes "mov    " ++ two (register r) (memory a)
instr next (Store a r) = codes "mov    " ++ two (memory a) (register r)
instr next (Lea r a) = codes "lea    " ++ two (register r) (address a)
instr next (Arith o r s) = op o ++ two (register r) (source s)
instr next (Imul r q) = codes "imul   " ++ two (register r) (register q)
instr next (Shift k r n) = shift k ++ two (register r) (number n)
instr next (Test r q) = codes "test   " ++ two (register r) (register q)
instr next (Jmp d) = codes "jmp    " ++ number (plus next (word d))
instr next (Jcc e d) = jump_if e ++ number (plus next (word d))
instr next (JmpReg r) = jump_to r ++ register r
instr next Syscall = codes "syscall"
