-- The blocks that write an integer in decimal and end, and what they write.
use Rattle.std.specs.Prelude.{◌≡◌, ℕ, zero, suc, ◌+◌, ◌*◌, ◌<◌, ◌^◌, ℤ, List, [], ◌∷◌, ◌++◌, Some, codes, slice_get}
use Rattle.t_writer.specs.Lexeme.{number_text}
use Rattle.w_terms.specs.Tree.{WConst, WMove, WArith, WLoad, WStore, WBranch, WWrite, WSeq, WThen, WJump, WExit}
use Rattle.w_terms.specs.Machine.{Memory}
use Rattle.w_terms.specs.declared.program.WDatum.{WDatum}
use Rattle.w_terms.specs.declared.program.WDatum.TheVariants as D
use Rattle.w_terms.specs.declared.instr.WOp.TheVariants as O
use Rattle.w_terms.specs.declared.instr.WCond.TheVariants as C
use Rattle.w_terms.specs.declared.instr.WOperand.TheVariants as V

-- the line that says with which integer a program has halted
abbrev pub integer_line : ℤ → List ℕ
integer_line i = codes "int " ++ (number_text i ++ codes "\n")

-- Registers: what is left of the integer, where the power of ten stands, that power, the digit, the bytes that wait for
-- a word of their own, what the next byte is to be taken by, where that word goes, the bytes so far; one for the
-- moment.
abbrev pub temp_reg : ℕ
temp_reg = 4

abbrev pub left_reg : ℕ
left_reg = 5

abbrev pub at_reg : ℕ
at_reg = 6

abbrev pub power_reg : ℕ
power_reg = 7

abbrev pub digit_reg : ℕ
digit_reg = 8

abbrev pub word_reg : ℕ
word_reg = 9

abbrev pub factor_reg : ℕ
factor_reg = 10

abbrev pub to_reg : ℕ
to_reg = 11

abbrev pub count_reg : ℕ
count_reg = 12

-- The powers of ten stand in 19 words from the address `table` on, 1 first. Behind them are four words for the text.
abbrev pub text_start : ℕ → ℕ
text_start table = table + 152

-- Five blocks stand at the label l and at those behind it.
module _ (table l : ℕ) where
  -- the number that is left behind the sign
  abbrev pub negated : WSeq
  negated =
      WThen (WConst word_reg 0x7e20746e69) (WThen (WConst factor_reg (2 ^ 40)) (WThen (WConst count_reg 5)
      (WThen (WConst temp_reg 0) (WThen (WArith O.Sub left_reg temp_reg (V.Reg left_reg)) (WJump l)))))

  -- the integer is in register q
  abbrev pub print_code : ℕ → WSeq
  print_code q =
      WThen (WMove left_reg q) (WThen (WConst word_reg 0x20746e69) (WThen (WConst factor_reg (2 ^ 32))
      (WThen (WConst count_reg 4) (WThen (WConst to_reg (text_start table)) (WThen (WConst at_reg (table + 144))
      (WThen (WConst digit_reg 48) (WThen (WBranch C.Below left_reg (V.Num (2 ^ 63)) l) negated)))))))

  -- l: down to the first power that is not greater
  abbrev pub lead_code : WSeq
  lead_code =
      WThen (WLoad power_reg at_reg 0) (WThen (WBranch C.AtLeast left_reg (V.Reg power_reg) (l + 1))
      (WThen (WBranch C.Equal power_reg (V.Num 1) (l + 1)) (WThen (WArith O.Sub at_reg at_reg (V.Num 8)) (WJump l))))

  -- l + 1: how often it goes in
  abbrev pub digit_code : WSeq
  digit_code =
      WThen (WBranch C.Below left_reg (V.Reg power_reg) (l + 2))
      (WThen (WArith O.Sub left_reg left_reg (V.Reg power_reg))
      (WThen (WArith O.Add digit_reg digit_reg (V.Num 1)) (WJump (l + 1))))

  -- l + 2: the digit goes to the bytes; eight of them are a word
  abbrev pub flush_code : WSeq
  flush_code =
      WThen (WStore to_reg 0 word_reg) (WThen (WArith O.Add to_reg to_reg (V.Num 8)) (WThen (WConst word_reg 0)
      (WThen (WConst factor_reg 1) (WJump (l + 3)))))

  abbrev pub put_code : WSeq
  put_code =
      WThen (WArith O.Mul temp_reg digit_reg (V.Reg factor_reg)) (WThen
      (WArith O.Add word_reg word_reg (V.Reg temp_reg))
      (WThen (WArith O.Add count_reg count_reg (V.Num 1)) (WThen (WArith O.Mul factor_reg factor_reg (V.Num 256))
      (WThen (WBranch C.Differ factor_reg (V.Num 0) (l + 3)) flush_code))))

  -- l + 3: on to the next power, if there is one
  abbrev pub next_code : WSeq
  next_code =
      WThen (WBranch C.Equal power_reg (V.Num 1) (l + 4)) (WThen (WArith O.Sub at_reg at_reg (V.Num 8))
      (WThen (WLoad power_reg at_reg 0) (WThen (WConst digit_reg 48) (WJump (l + 1)))))

  -- l + 4: the line end, and all is written
  abbrev pub last_code : WSeq
  last_code =
      WThen (WArith O.Mul temp_reg factor_reg (V.Num 10)) (WThen (WArith O.Add word_reg word_reg (V.Reg temp_reg))
      (WThen (WStore to_reg 0 word_reg) (WThen (WArith O.Add count_reg count_reg (V.Num 1))
      (WThen (WConst to_reg (text_start table)) (WThen (WWrite 1 to_reg count_reg) (WExit 0))))))

  -- these blocks are there
  pub record HasBlocks (blocks : List WSeq) : Type 0 where
    pub lead : slice_get blocks l ≡ Some lead_code
    pub digit : slice_get blocks (l + 1) ≡ Some digit_code
    pub put : slice_get blocks (l + 2) ≡ Some put_code
    pub next : slice_get blocks (l + 3) ≡ Some next_code
    pub last : slice_get blocks (l + 4) ≡ Some last_code

-- and the memory has the powers and words for the text
pub record HasTable (table : ℕ) (m : Memory) : Type 0 where
  pub powers : (e : ℕ) → e < 19 → m (table + 8 * e) ≡ Some (10 ^ e)
  pub words : (j : ℕ) → j < 4 → (n : ℕ) × (m (text_start table + 8 * j) ≡ Some n)

-- the five blocks, one after the other
abbrev pub print_blocks : ℕ → ℕ → List WSeq
print_blocks table l =
    lead_code table l
    ∷ (digit_code table l ∷ (put_code table l ∷ (next_code table l ∷ (last_code table l ∷ []))))

-- so many powers of ten, from that of e on
abbrev pub powers_from : ℕ → ℕ → List WDatum
powers_from e zero = []
powers_from e (suc n) = D.Number (10 ^ e) ∷ powers_from (suc e) n

abbrev pub zeros : ℕ → List WDatum
zeros zero = []
zeros (suc n) = D.Number 0 ∷ zeros n

-- the words from the table on
abbrev pub table_words : List WDatum
table_words = powers_from 0 19 ++ zeros 4
