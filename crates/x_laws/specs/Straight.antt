-- The instructions of an instruction of word code that goes on to the next one. Words of slots go to RAX and RCX, and a
-- result to its home, or by way of RAX to its slot.
use Rattle.std.specs.Prelude.{Bool, true, false, nat_lt, nat_eq, ℕ, ◌<◌, ◌^◌, pos, List, [], ◌∷◌, ◌++◌}
use Rattle.x_terms.specs.declared.register.Register.{Register}
use Rattle.x_terms.specs.declared.register.Register.TheVariants.{Rax, Rcx}
use Rattle.x_terms.specs.declared.instr.Op.TheVariants as op
use Rattle.x_terms.specs.declared.instr.Source.{Source}
use Rattle.x_terms.specs.declared.instr.Source.TheVariants.{Reg, Int}
use Rattle.x_terms.specs.declared.instr.Address.TheVariants.{Absolute, Based}
use Rattle.x_terms.specs.declared.instr.Instr.{Instr}
use Rattle.x_terms.specs.declared.instr.Instr.TheVariants.{Const, Mov, Load, Store, Arith, Imul, Shift as ShiftBy}
use Rattle.x_terms.specs.declared.instr.Shift.{Shift}
use Rattle.x_terms.specs.declared.instr.Shift.TheVariants.{Shl, Shr}
use Rattle.x_laws.specs.Homes.{Home, InRegister, InSlot}
use Rattle.w_terms.specs.Tree.{WInstr, WConst, WMove, WArith, WLoad, WStore}
use Rattle.w_terms.specs.declared.instr.WOp.{WOp}
use Rattle.w_terms.specs.declared.instr.WOp.TheVariants as w
use Rattle.w_terms.specs.declared.instr.WOperand.{WOperand}
use Rattle.w_terms.specs.declared.instr.WOperand.TheVariants as v

-- from a home to a register, and back
abbrev pub fetch : Register → Home → List Instr
fetch t (InRegister q) = Mov t (Reg q) ∷ []
fetch t (InSlot a) = Load t (Absolute a) ∷ []

abbrev pub keep : Home → Register → List Instr
keep (InRegister q) t = Mov q (Reg t) ∷ []
keep (InSlot a) t = Store (Absolute a) t ∷ []

-- the register in which a result is made, and the way from there to its home
abbrev pub target : Home → Register
target (InRegister q) = q
target (InSlot a) = Rax

abbrev pub finish : Home → List Instr
finish (InRegister q) = []
finish (InSlot a) = Store (Absolute a) Rax ∷ []

-- the register that has the word of a home once `bring` has run: the home itself, or else t
abbrev pub hand : Register → Home → Register
hand t (InRegister q) = q
hand t (InSlot a) = t

abbrev pub bring : Register → Home → List Instr
bring t (InRegister q) = []
bring t (InSlot a) = Load t (Absolute a) ∷ []

-- A right operand stands in the instruction where it is a number below 2 ^ 31, else in a register: its home, or RCX. A
-- product takes a register.
abbrev pub is_short : WOp → ℕ → Bool
is_short w.Mul k = false
is_short w.Shl k = nat_lt k 64
is_short w.Shr k = nat_lt k 64
is_short _ k = nat_lt k (2 ^ 31)

abbrev pub number_source : Bool → ℕ → Source
number_source true k = Int (pos k)
number_source false k = Reg Rcx

abbrev pub bring_number : Bool → ℕ → List Instr
bring_number true k = []
bring_number false k = Const Rcx k ∷ []

abbrev pub right : (ℕ → Home) → WOp → WOperand → Source
right homes o (v.Reg q) = Reg (hand Rcx (homes q))
right homes o (v.Num k) = number_source (is_short o k) k

abbrev pub bring_right : (ℕ → Home) → WOp → WOperand → List Instr
bring_right homes o (v.Reg q) = bring Rcx (homes q)
bring_right homes o (v.Num k) = bring_number (is_short o k) k

abbrev pub product : Register → Source → List Instr
product t (Reg r) = Imul t r ∷ []
product t (Int i) = []

-- a shift takes a number
abbrev pub shifted_by : Shift → Register → Source → List Instr
shifted_by k t (Int (pos n)) = ShiftBy k t n ∷ []
shifted_by k t _ = []

-- the operation on a register
abbrev pub operation : WOp → Register → Source → List Instr
operation w.Add t s = Arith op.Add t s ∷ []
operation w.Sub t s = Arith op.Sub t s ∷ []
operation w.Mul t s = product t s
operation w.And t s = Arith op.And t s ∷ []
operation w.Or t s = Arith op.Or t s ∷ []
operation w.Shl t s = shifted_by Shl t s
operation w.Shr t s = shifted_by Shr t s

-- in the register itself where its word is the left operand, else by way of RAX
abbrev pub arith_by : Bool → Home → Home → WOp → List Instr → Source → List Instr
arith_by true (InRegister q) left o brings s = brings ++ operation o q s
arith_by _ to left o brings s = fetch Rax left ++ brings ++ operation o Rax s ++ keep to Rax

abbrev pub straight : (ℕ → Home) → WInstr → List Instr
straight homes (WConst rd n) = Const (target (homes rd)) n ∷ finish (homes rd)
straight homes (WMove rd rs) = fetch (target (homes rd)) (homes rs) ++ finish (homes rd)
straight homes (WArith o rd rs x) =
    arith_by (nat_eq rd rs) (homes rd) (homes rs) o (bring_right homes o x) (right homes o x)
straight homes (WLoad rd ra off) =
    bring Rax (homes ra) ++ (Load (target (homes rd)) (Based (hand Rax (homes ra)) (pos off)) ∷ finish (homes rd))
straight homes (WStore ra off rs) =
    bring Rax (homes ra) ++ bring Rcx (homes rs)
    ++ (Store (Based (hand Rax (homes ra)) (pos off)) (hand Rcx (homes rs)) ∷ [])
straight homes _ = []

-- a shift is by a number below 64
abbrev pub IsCount : WOperand → Type 0
IsCount (v.Num k) = k < 64
IsCount (v.Reg q) = ⊥

abbrev pub IsPlain : WOp → WOperand → Type 0
IsPlain w.Shl x = IsCount x
IsPlain w.Shr x = IsCount x
IsPlain _ x = Unit {0}

-- an instruction that goes straight on, of registers below n and of numbers that fit
abbrev pub FitsRight : ℕ → WOperand → Type 0
FitsRight n (v.Reg q) = q < n
FitsRight n (v.Num k) = k < 2 ^ 64

abbrev pub IsStraight : ℕ → WInstr → Type 0
IsStraight n (WConst rd k) = (rd < n) × (k < 2 ^ 64)
IsStraight n (WMove rd rs) = (rd < n) × (rs < n)
IsStraight n (WArith o rd rs x) = IsPlain o x × (rd < n) × (rs < n) × FitsRight n x
IsStraight n (WLoad rd ra off) = (rd < n) × (ra < n) × (off < 2 ^ 31)
IsStraight n (WStore ra off rs) = (ra < n) × (off < 2 ^ 31) × (rs < n)
IsStraight n _ = ⊥
