-- The listing of an assembly program: its instructions, each with the number of its line, and between them what is
-- known of the registers. All of the form is our own choice; types are written as `trace` writes them.
use Rattle.std.specs.Prelude.{◌≡◌, ℕ, suc, ◌-◌, nat_lt, List, [], ◌∷◌, ◌++◌, Option, Some, None, codes, decimal}
use Rattle.std.specs.Prelude.{IsSome, drop, if◌then◌else◌, length, map, option_map, take}
use Rattle.idx_core.specs.declared.span.Span.{Span}
use Rattle.idx_core.specs.Separator.{separator}
use Rattle.page_core.specs.Page.{dots}
use Rattle.page_core.specs.Spot.{line_number}
use Rattle.t_types.specs.Tree.{Ty, TFile, NoRegs, MoreRegs}
use Rattle.t_types.specs.Fits.{RegTypes}
use Rattle.t_terms.specs.Tree.{TInstr, Arith, Bnz, Ld, Malloc, Mov, St, Unpack, TProg, names_after}
use Rattle.t_terms.specs.Spanned.{SBlock, SProg, plain_program}
use Rattle.t_rules.specs.Known.{KnownAt}
use Rattle.t_rules.specs.Rules.{Typed}
use Rattle.t_check.specs.Walks.{IsKnownFile}
use Rattle.t_trace.specs.Line.{text_at}

-- ---- the rows of the text

-- a byte as it is shown: a line end, a tab, and any other sign below the printable ones as a space, and one above as a
-- question mark
abbrev pub shown_byte : ℕ → ℕ
shown_byte byte = if nat_lt byte 32 then 32 else if nat_lt byte 127 then byte else 63

-- the bytes of a place in the text
abbrev pub bytes_of : List ℕ → Span → List ℕ
bytes_of text place = take (place.end - place.start) (drop place.start text)

-- the number of the line where the place begins, its bytes on one line, and what is put behind them
abbrev pub text_row : List ℕ → Span → List ℕ → List ℕ
text_row text place behind =
    decimal (line_number text place.start) ++ (codes " | " ++ (map shown_byte (bytes_of text place) ++ behind))

-- what is put behind the label of a block, and behind an instruction or an end
abbrev pub label_end : List ℕ
label_end = codes ":\n"

abbrev pub line_end : List ℕ
line_end = codes "\n"

-- ---- the rows of what is known

-- how many bytes of a type are shown at most
abbrev pub most_shown : ℕ
most_shown = 1000

-- the beginning of a type, and two dots where there is more of it
abbrev pub cut : List ℕ → List ℕ
cut text = take most_shown text ++ dots (nat_lt most_shown (length text))

-- a register and its type, where n type names are in scope
abbrev pub register_text : (n r : ℕ) → Ty → List ℕ
register_text n r t = codes "r" ++ (decimal r ++ (codes ":" ++ cut (text_at n 0 t)))

-- registers with their types, where k stand before them
abbrev pub registers_text : (n k : ℕ) → TFile → List ℕ
registers_text n k NoRegs = []
registers_text n k (MoreRegs r t file) = separator k ++ (register_text n r t ++ registers_text n (suc k) file)

-- a place, by the numbers of its block and of the instruction in it, as `trace` names it
abbrev pub place_text : (b i : ℕ) → List ℕ
place_text b i = codes "b" ++ (decimal b ++ (codes "." ++ decimal i))

-- all registers at a place
abbrev pub file_row : (b i n : ℕ) → TFile → List ℕ
file_row b i n file = codes "    " ++ (place_text b i ++ (codes " {" ++ (registers_text n 0 file ++ codes "}\n")))

-- one register, or nothing where its type is not known
abbrev pub register_row : (n r : ℕ) → Option Ty → List ℕ
register_row n r None = []
register_row n r (Some t) = codes "    " ++ (register_text n r t ++ codes "\n")

-- the register that an instruction sets
abbrev pub set_by : TInstr → Option ℕ
set_by (Arith op rd rs v) = Some rd
set_by (Bnz r v) = None
set_by (Ld rd rs field) = Some rd
set_by (Malloc rd types) = Some rd
set_by (Mov rd v) = Some rd
set_by (St rd field rs) = Some rd
set_by (Unpack rd v) = Some rd

-- ---- what is known at a place

-- before instruction i of block b of P (behind the last one: before the end) this is known of all registers
pub record IsFileRow (P : TProg) (b i : ℕ) (row : List ℕ) : Type 0 where
  pub names : ℕ
  pub file : TFile
  pub known : IsKnownFile P b i names file
  pub is : row ≡ file_row b i names file

-- and this of the one register
pub record IsRegisterRow (P : TProg) (b i r : ℕ) (row : List ℕ) : Type 0 where
  pub names : ℕ
  pub types : RegTypes
  pub known : KnownAt P b i names types
  pub is : row ≡ register_row names r (types r)

-- where an instruction has set a register, the row is that of this register
abbrev pub IsSetRow : TProg → (b i : ℕ) → Option ℕ → List ℕ → Type 0
IsSetRow P b i None row = row ≡ []
IsSetRow P b i (Some r) row = IsRegisterRow P b i r row

-- ---- the listing

-- Rows of instructions, of which the first is the one with the number i in block b: each instruction, and what is then
-- known of the register that it has set. Of each other register is known what was known before.
abbrev pub AreSteps : List ℕ → TProg → (b i : ℕ) → List (TInstr × Span) → List ℕ → Type 0
AreSteps text P b i [] rows = rows ≡ []
AreSteps text P b i (x ∷ xs) rows =
    (row rest : List ℕ) × IsSetRow P b (suc i) (set_by x.0) row × AreSteps text P b (suc i) xs rest
    × (rows ≡ text_row text x.1 line_end ++ (row ++ rest))

-- what is known of all registers behind these instructions of a block, where there are any
abbrev pub IsLastRow : TProg → ℕ → List (TInstr × Span) → List ℕ → Type 0
IsLastRow P b [] row = row ≡ []
IsLastRow P b (x ∷ xs) row = IsFileRow P b (suc (length xs)) row

-- The rows of block b up to a place in it, before which it has these instructions: its label; what is known of all
-- registers at its start; the instructions; what is known of all registers behind them.
pub record IsBegun (text : List ℕ) (P : TProg) (b : ℕ) (x : SBlock) (before : List (TInstr × Span)) (rows : List ℕ) :
    Type 0 where
  pub first : List ℕ
  pub steps : List ℕ
  pub last : List ℕ
  pub starts : IsFileRow P b 0 first
  pub goes_on : AreSteps text P b 0 before steps
  pub ends : IsLastRow P b before last
  pub is : rows ≡ text_row text x.name label_end ++ (first ++ (steps ++ last))

-- the rows of block b: those up to its end, and its end
pub record IsBlock (text : List ℕ) (P : TProg) (b : ℕ) (x : SBlock) (rows : List ℕ) : Type 0 where
  pub before : List ℕ
  pub begun : IsBegun text P b x x.body before
  pub is : rows ≡ before ++ text_row text x.last_span line_end

-- rows of blocks, of which the first is block b
abbrev pub AreBlocks : List ℕ → TProg → ℕ → List SBlock → List ℕ → Type 0
AreBlocks text P b [] rows = rows ≡ []
AreBlocks text P b (x ∷ xs) rows =
    (block rest : List ℕ) × IsBlock text P b x block × AreBlocks text P (suc b) xs rest × (rows ≡ block ++ rest)

-- the listing of a program that stands in the text
abbrev pub IsListing : List ℕ → SProg → List ℕ → Type 0
IsListing text program rows = AreBlocks text (plain_program program) 0 program.blocks rows

-- The laws.

-- what is said of a register where so many type names are in scope: the text of its type, or nothing
abbrev pub said_of : ℕ → Option Ty → Option (List ℕ)
said_of names type = option_map (text_at names 0) type

-- of each register but the one that an instruction sets, what is said behind the instruction is what was said before it
abbrev pub OthersStay : Type 0
OthersStay =
    (P : TProg) (n : ℕ) (g h : RegTypes) (i : TInstr) (r : ℕ) → Typed P n g i h → (set_by i ≡ Some r → ⊥) →
    said_of (names_after i n) (h r) ≡ said_of n (g r)

-- of the register that an instruction sets the type is known behind it
abbrev pub SetIsKnown : Type 0
SetIsKnown =
    (P : TProg) (n : ℕ) (g h : RegTypes) (i : TInstr) (r : ℕ) → Typed P n g i h → set_by i ≡ Some r → IsSome (h r)
