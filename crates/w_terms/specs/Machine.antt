-- The machine of word code: a partial function on states. Where the code of each label stands is a parameter.
use Rattle.std.specs.Prelude.{◌≡◌, ℕ, zero, suc, ◌+◌, ◌-◌, ◌*◌, ◌/◌, ◌%◌, ◌^◌, ◌<◌, Bool, not, cond}
use Rattle.std.specs.Prelude.{nat_eq}
use Rattle.std.specs.Prelude.{nat_lt, List, [], ◌∷◌, ◌++◌, length, Option, Some, None, option_map, option_and_then}
use Rattle.std.specs.Prelude.{slice_get, ◌⊎◌}
use Rattle.std.specs.Int.Bits.{bit_and, bit_or}
use Rattle.w_terms.specs.Tree.{WInstr, WConst, WMove, WPlace, WArith, WLoad, WStore, WBranch, WWrite, WSeq, WThen}
use Rattle.w_terms.specs.Tree.{WJump, WGoto, WExit, WProg}
use Rattle.w_terms.specs.declared.instr.WOp.{WOp}
use Rattle.w_terms.specs.declared.instr.WOp.TheVariants as O
use Rattle.w_terms.specs.declared.instr.WCond.{WCond}
use Rattle.w_terms.specs.declared.instr.WCond.TheVariants as C
use Rattle.w_terms.specs.declared.instr.WOperand.{WOperand}
use Rattle.w_terms.specs.declared.instr.WOperand.TheVariants as V
use Rattle.w_terms.specs.declared.program.WDatum.{WDatum}
use Rattle.w_terms.specs.declared.program.WDatum.TheVariants as D

-- each register has a word, a number below 2 ^ 64
abbrev pub WRegs : Type 0
WRegs = ℕ → ℕ

-- the words of the memory by their addresses; where there is none, no program may look
abbrev pub Memory : Type 0
Memory = ℕ → Option ℕ

-- what was written: to which output, and the bytes
pub data Written : Type 0 where
  Put : (to : ℕ) (bytes : List ℕ) → Written

-- registers, memory, what was written so far, and the instructions to come
pub data WState : Type 0 where
  WAt : (regs : WRegs) (memory : Memory) (log : List Written) (code : WSeq) → WState

-- x at the number k, and elsewhere what f has
abbrev pub with_word : {A : Type 0} → (ℕ → A) → ℕ → A → ℕ → A
with_word f k x q = cond (nat_eq k q) x (f q)

abbrev pub operand : WRegs → WOperand → ℕ
operand r (V.Reg q) = r q
operand r (V.Num n) = n

-- the word that an operation gives
abbrev pub word_op : WOp → ℕ → ℕ → ℕ
word_op O.Add a b = (a + b) % 2 ^ 64
word_op O.Sub a b = (a + (2 ^ 64 - b)) % 2 ^ 64
word_op O.Mul a b = (a * b) % 2 ^ 64
word_op O.And a b = bit_and a b
word_op O.Or a b = bit_or a b
word_op O.Shl a b = (a * 2 ^ b) % 2 ^ 64
word_op O.Shr a b = a / 2 ^ b

-- the comparison holds
abbrev pub holds : WCond → ℕ → ℕ → Bool
holds C.Equal a b = nat_eq a b
holds C.Differ a b = not (nat_eq a b)
holds C.Below a b = nat_lt a b
holds C.AtLeast a b = not (nat_lt a b)

-- the bytes of the memory from an address on: a word has its lowest byte first
abbrev pub byte_at : Memory → ℕ → Option ℕ
byte_at m a = option_map (λ w. (w / 256 ^ (a % 8)) % 256) (m (a - a % 8))

abbrev pub bytes_at : Memory → ℕ → ℕ → Option (List ℕ)
bytes_at m a zero = Some []
bytes_at m a (suc n) = option_and_then (λ b. option_map (λ bs. b ∷ bs) (bytes_at m (suc a) n)) (byte_at m a)

-- the address a has a word
abbrev pub stored : Memory → ℕ → ℕ → Option Memory
stored m a w = option_map (λ old. with_word m a (Some w)) (m a)

-- Of n labels, that which stands at the address a, where place has the address of each.
abbrev pub label_at : (ℕ → ℕ) → ℕ → ℕ → Option ℕ
label_at place zero a = None
label_at place (suc n) a = cond (nat_eq (place n) a) (Some n) (label_at place n a)

module _ (place : ℕ → ℕ) (blocks : List WSeq) where
  abbrev pub at_label : WRegs → Memory → List Written → ℕ → Option WState
  at_label r m log l = option_map (WAt r m log) (slice_get blocks l)

  -- one instruction, in front of the rest c
  abbrev pub instr_step : WRegs → Memory → List Written → WInstr → WSeq → Option WState
  instr_step r m log (WConst rd n) c = Some (WAt (with_word r rd n) m log c)
  instr_step r m log (WMove rd rs) c = Some (WAt (with_word r rd (r rs)) m log c)
  instr_step r m log (WPlace rd l) c = Some (WAt (with_word r rd (place l)) m log c)
  instr_step r m log (WArith op rd rs v) c = Some (WAt (with_word r rd (word_op op (r rs) (operand r v))) m log c)
  instr_step r m log (WLoad rd ra off) c = option_map (λ w. WAt (with_word r rd w) m log c) (m (r ra + off))
  instr_step r m log (WStore ra off rs) c = option_map (λ new. WAt r new log c) (stored m (r ra + off) (r rs))
  instr_step r m log (WBranch test rs v l) c =
      cond (holds test (r rs) (operand r v)) (at_label r m log l) (Some (WAt r m log c))
  instr_step r m log (WWrite to ra rn) c =
      option_map (λ bs. WAt r m (log ++ (Put to bs ∷ [])) c) (bytes_at m (r ra) (r rn))

  -- one step; none at an exit, and none where the machine is stuck
  abbrev pub wstep : WState → Option WState
  wstep (WAt r m log (WThen i c)) = instr_step r m log i c
  wstep (WAt r m log (WJump l)) = at_label r m log l
  wstep (WAt r m log (WGoto q)) = option_and_then (at_label r m log) (label_at place (length blocks) (r q))
  wstep (WAt r m log (WExit status)) = None

  -- m steps
  abbrev pub wrun : ℕ → WState → Option WState
  wrun zero x = Some x
  wrun (suc m) x = option_and_then (wrun m) (wstep x)

-- the state is at an exit
abbrev pub ExitsWith : WState → ℕ → List Written → Type 0
ExitsWith (WAt r m log (WExit status)) n out = (n ≡ status) × (out ≡ log)
ExitsWith _ n out = ⊥

-- the memory at the start
abbrev pub datum_word : (ℕ → ℕ) → WDatum → ℕ
datum_word place (D.Number n) = n
datum_word place (D.Label l) = place l

abbrev pub image_word : (ℕ → ℕ) → Option WDatum → ℕ
image_word place (Some x) = datum_word place x
image_word place None = 0

-- the word k of the memory stands at the address base + 8 * k
abbrev pub start_memory : (ℕ → ℕ) → WProg → Memory
start_memory place p a =
    cond (nat_lt a p.base) None
    (cond (nat_eq ((a - p.base) % 8) 0)
    (cond (nat_lt ((a - p.base) / 8) p.size) (Some (image_word place (slice_get p.image ((a - p.base) / 8)))) None)
    None)

-- the start: any words in the registers
abbrev pub WStart : (ℕ → ℕ) → WProg → WRegs → WState → Type 0
WStart place p r s = (c : WSeq) × (slice_get p.blocks 0 ≡ Some c) × (s ≡ WAt r (start_memory place p) [] c)

-- A place for each label: a word, and another one for each other label.
abbrev pub Places : (ℕ → ℕ) → WProg → Type 0
Places place p =
    ((l : ℕ) → l < length p.blocks → place l < 2 ^ 64)
    × ((l k : ℕ) → l < length p.blocks → k < length p.blocks → place l ≡ place k → l ≡ k)

-- each register has a word
abbrev pub AreWords : WRegs → Type 0
AreWords r = (q : ℕ) → r q < 2 ^ 64

-- From the registers r the program exits with the status, and has written what out says.
abbrev pub Exits : (ℕ → ℕ) → WProg → WRegs → ℕ → List Written → Type 0
Exits place p r status out =
    (n : ℕ) × (s t : WState) × WStart place p r s × (wrun place p.blocks n s ≡ Some t) × ExitsWith t status out

-- After any number of steps there is a state, or the program has exited.
abbrev pub NeverSticks : (ℕ → ℕ) → WProg → WRegs → Type 0
NeverSticks place p r =
    (n : ℕ) (s : WState) → WStart place p r s →
    ((t : WState) × (wrun place p.blocks n s ≡ Some t)) ⊎ ((status : ℕ) × (out : List Written) ×
    Exits place p r status out)
