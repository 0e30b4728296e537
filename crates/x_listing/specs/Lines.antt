-- The lines of a listing: where a block of word code begins its address and its name; then, for each of its
-- instructions, that instruction and the code of the processor that it has, with addresses and bytes.
use Rattle.std.specs.Prelude.{◌≡◌, ℕ, suc, ◌+◌, ◌*◌, List, [], ◌∷◌, ◌++◌, Some, codes, length, replicate}
use Rattle.std.specs.Prelude.{◌-◌}
use Rattle.x_terms.specs.Machine.{Image, fetch}
use Rattle.x_terms.specs.declared.instr.Instr.{Instr}
use Rattle.x_code.specs.Bytes.{bytes_of}
use Rattle.x_laws.specs.Core.{bytes_all}
use Rattle.x_laws.specs.Code.{instr_code, seq_code}
use Rattle.x_laws.specs.Layout.{place_from, program_code}
use Rattle.x_file.specs.File.{code_address, data_address}
use Rattle.x_pass.specs.Homes.{home}
use Rattle.x_listing.specs.Text.{hex, number, wide, bytes_text}
use Rattle.x_listing.specs.Text as text
use Rattle.x_listing.specs.Remarks.{Note, note_at, name_at, text_before}
use Rattle.x_listing.specs.Words as words
use Rattle.w_terms.specs.Tree.{WInstr, WSeq, WThen, WJump, WGoto, WExit, WProg}

-- where a block begins; what is said of the code behind it; an instruction of word code; one of the processor
pub data Line : Type 0 where
  Title : (a : ℕ) (name : List ℕ) → Line
  Remark : (text : List ℕ) → Line
  Word : (text : List ℕ) → Line
  Step : (a : ℕ) (i : Instr) → Line

-- ---- lines as text, as `objdump -d -M intel --insn-width=10` writes those that are not comments

abbrev pub bytes_column : List ℕ → List ℕ
bytes_column bytes = bytes_text bytes ++ replicate (3 * (10 - length bytes)) 32

-- an address, the bytes and the text of an instruction
abbrev pub step_text : ℕ → List ℕ → List ℕ → List ℕ
step_text a bytes code =
    wide 8 32 (hex a) ++ (codes ":\t" ++ (bytes_column bytes ++ (codes "\t" ++ (code ++ codes "\n"))))

abbrev pub line_text : Line → List ℕ
line_text (Title a name) = codes "\n" ++ (wide 16 48 (hex a) ++ (codes " <" ++ (name ++ codes ">:\n")))
line_text (Remark text) = codes "; " ++ (text ++ codes "\n")
line_text (Word text) = codes "  ; " ++ (text ++ codes "\n")
line_text (Step a i) = step_text a (bytes_of i) (text.instr (a + length (bytes_of i)) i)

abbrev pub page_text : List Line → List ℕ
page_text [] = []
page_text (x ∷ xs) = line_text x ++ page_text xs

-- ---- the lines of a program

abbrev pub remark : List ℕ → List Line
remark [] = []
remark (b ∷ text) = Remark (b ∷ text) ∷ []

-- in front of instruction k
abbrev pub remark_at : List (List ℕ) → ℕ → List Line
remark_at before k = remark (text_before before k)

-- instructions one behind the other, the first at the address a
abbrev pub step_lines : ℕ → List Instr → List Line
step_lines a [] = []
step_lines a (i ∷ is) = Step a i ∷ step_lines (a + length (bytes_of i)) is

-- an instruction of word code, and the end of a block
abbrev pub word_line : List Note → WInstr → Line
word_line notes i = Word (words.instr (name_at notes) i)

abbrev pub last_line : List Note → WSeq → Line
last_line notes c = Word (words.last (name_at notes) c)

-- where labels have these places and blocks these notes
module _ (place : ℕ → ℕ) (notes : List Note) where
  abbrev pub instr_lines : ℕ → WInstr → List Line
  instr_lines a i = word_line notes i ∷ step_lines a (instr_code home place a i)

  abbrev pub last_lines : ℕ → WSeq → List Line
  last_lines a c = last_line notes c ∷ step_lines a (seq_code home place a c)

  -- instructions from number k on, of which the first has its code at the address a
  abbrev pub seq_lines : List (List ℕ) → (k a : ℕ) → WSeq → List Line
  seq_lines before k a (WThen i c) =
      remark_at before k
      ++ (instr_lines a i ++ seq_lines before (suc k) (a + length (bytes_all (instr_code home place a i))) c)
  seq_lines before k a (WJump l) = remark_at before k ++ last_lines a (WJump l)
  seq_lines before k a (WGoto q) = remark_at before k ++ last_lines a (WGoto q)
  seq_lines before k a (WExit status) = remark_at before k ++ last_lines a (WExit status)

  -- block l
  abbrev pub block_lines : ℕ → WSeq → List Line
  block_lines l c = Title (place l) (name_at notes l) ∷ seq_lines (note_at notes l).before 0 (place l) c

  -- blocks from number l on
  abbrev pub blocks_lines : ℕ → List WSeq → List Line
  blocks_lines l [] = []
  blocks_lines l (c ∷ cs) = block_lines l c ++ blocks_lines (suc l) cs

-- a part of memory: from where to where it goes
abbrev pub part : List ℕ → ℕ → ℕ → Line
part name a b = Remark (name ++ (number a ++ (codes " to " ++ number b)))

-- the parts of a file: the code, the words of registers, and the memory of the program, up to these ends
abbrev pub parts : (code base memory : ℕ) → List Line
parts code base memory =
    part (codes "code: ") code_address code
    ∷ (part (codes "registers: ") data_address base ∷ (part (codes "memory: ") base memory ∷ []))

abbrev pub head_lines : WProg → List Line
head_lines p =
    parts (code_address + length (program_code home code_address p.blocks)) p.base (p.base + 8 * p.size)

-- all lines
abbrev pub program_lines : List Note → WProg → List Line
program_lines notes p =
    head_lines p ++ blocks_lines (place_from home code_address p.blocks) notes 0 p.blocks

-- ---- what lines show

-- the bytes, in order
abbrev pub shown_bytes : List Line → List ℕ
shown_bytes [] = []
shown_bytes (Title a name ∷ xs) = shown_bytes xs
shown_bytes (Remark text ∷ xs) = shown_bytes xs
shown_bytes (Word text ∷ xs) = shown_bytes xs
shown_bytes (Step a i ∷ xs) = bytes_of i ++ shown_bytes xs

-- Each address is that of the byte which comes next, where the first byte of all is at the address a.
abbrev pub AreInOrder : ℕ → List Line → Type 0
AreInOrder a [] = Unit {0}
AreInOrder a (Title b name ∷ xs) = (b ≡ a) × AreInOrder a xs
AreInOrder a (Remark text ∷ xs) = AreInOrder a xs
AreInOrder a (Word text ∷ xs) = AreInOrder a xs
AreInOrder a (Step b i ∷ xs) = (b ≡ a) × AreInOrder (a + length (bytes_of i)) xs

-- At each address the processor reads the instruction that is shown there, and just the bytes that are shown.
abbrev pub AreFetched : Image → List Line → Type 0
AreFetched m [] = Unit {0}
AreFetched m (Title a name ∷ xs) = AreFetched m xs
AreFetched m (Remark text ∷ xs) = AreFetched m xs
AreFetched m (Word text ∷ xs) = AreFetched m xs
AreFetched m (Step a i ∷ xs) = (fetch m a ≡ Some (i, length (bytes_of i))) × AreFetched m xs

-- The lines show the code, which begins at the address a: all of its bytes in order, each instruction at its address; and
-- each is what the processor reads there, wherever an image has this code.
pub record ShowsCode (a : ℕ) (lines : List Line) (code : List ℕ) : Type 0 where
  pub bytes : shown_bytes lines ≡ code
  pub in_order : AreInOrder a lines
  pub fetched : (m : Image) → m.code_at ≡ a → m.code ≡ code → AreFetched m lines
