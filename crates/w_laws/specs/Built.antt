-- The whole word code of a program: the runtime's blocks, where its memory stands, and that it means the same.
use Rattle.std.specs.Prelude.{◌≡◌, ℕ, suc, ◌+◌, ◌*◌, ◌/◌, ◌%◌, ◌<◌, ◌^◌, List, [], ◌∷◌, ◌++◌, length, codes}
use Rattle.std.specs.Prelude.{cond, nat_lt}
use Rattle.t_terms.specs.Tree.{TProg}
use Rattle.t_terms.specs.Whole.{Whole}
use Rattle.t_rules.specs.Rules.{Accepted}
use Rattle.t_rules.specs.Erase.{erase_heap}
use Rattle.w_terms.specs.Tree.{WConst, WSeq, WThen, WJump, WProg}
use Rattle.w_terms.specs.Machine.{WRegs, AreWords, Places, Put}
use Rattle.w_terms.specs.declared.program.WDatum.{WDatum}
use Rattle.w_terms.specs.declared.program.WDatum.TheVariants as D
use Rattle.w_print.specs.Blocks.{print_code, print_blocks, zeros, table_words, integer_line}
use Rattle.w_runtime.specs.Blocks.{Layout, Labels}
use Rattle.w_runtime.specs.Blocks as collector
use Rattle.w_rooms.specs.Numbers.{entry, free_reg, limit_reg, end_reg, sweep_reg, reg, print_label, slow_label}
use Rattle.w_rooms.specs.Rooms.{room_code, text_code}
use Rattle.w_laws.specs.Code.{IsTranslation, data_size, still_words}
use Rattle.w_laws.specs.Runtime.{Texts}
use Rattle.w_laws.specs.Laws.{MeansTheSame}

-- what is written where memory is wanted, 14 bytes
abbrev pub full_line : List ℕ
full_line = codes "out of memory\n"

-- A program that halts writes the line of its integer to the output, and one that wants memory that line to the error
-- output.
abbrev pub line_texts : Texts
line_texts = record {
  integer = λ i. Put 1 (integer_line i) ∷ [];
  full = Put 2 full_line ∷ [];
}

-- The words of the runtime: eight for that text, 19 powers of ten, four for the text of an integer; and one for each
-- of so many registers, and one more.
abbrev pub runtime_words : ℕ → List WDatum
runtime_words many =
    D.Number 0x6d20666f2074756f ∷ (D.Number 0x0a79726f6d65 ∷ (zeros 6 ++ (table_words ++ zeros (suc many))))

-- Where things stand, from base on, for a heap of so many bytes, so many registers and so many words of data: words
-- that never change; the roots, which are the registers and the data; the heap; the marks, that of the roots first; a
-- queue of half the heap's length.
abbrev pub layout_of : (base heap many data_words : ℕ) → Layout
layout_of base heap many data_words =
    let roots = base + 8 * still_words in
    let length_of_roots = 8 * (many + 1 + data_words) in
    let limit = roots + length_of_roots + heap in
    let marks = length_of_roots + heap in record {
      roots = roots;
      roots_end = roots + length_of_roots;
      base = roots + length_of_roots;
      limit = limit;
      marks = marks;
      queue = limit + marks;
      top = limit + marks + heap / 2;
    }

-- that of a program
abbrev pub program_layout : (base heap many : ℕ) → TProg → Layout
program_layout base heap many P = layout_of base heap many (data_size (erase_heap P))

-- the bytes of the heap that are in use at first
abbrev pub first_use : ℕ → ℕ
first_use heap = cond (nat_lt heap (2 ^ 20)) heap (2 ^ 20)

-- the labels of the collector's blocks, but for the first one
abbrev pub collector_labels : Labels
collector_labels = record {
  sweep = 9;
  hit = 10;
  tail = 11;
  grow = 12;
  claim = 13;
  begin = 14;
  scan = 15;
  take = 16;
  marked = 17;
  full = 18;
}

-- The program begins: free memory is the heap in use, and nothing is to be swept.
abbrev pub start_code : (free limit : ℕ) → WSeq
start_code free limit =
    WThen (WConst free_reg free) (WThen (WConst limit_reg limit) (WThen (WConst end_reg limit)
    (WThen (WConst sweep_reg limit) (WJump (entry 0)))))

-- the collector, and the end for want of memory, where that text begins at base
abbrev pub collector_blocks : Layout → ℕ → List WSeq
collector_blocks y base =
    collector.slow_code y collector_labels ∷ (collector.sweep_code y collector_labels
    ∷ (collector.hit_code y collector_labels ∷ (collector.tail_code y collector_labels
    ∷ (collector.grow_code y collector_labels ∷ (collector.claim_code y collector_labels
    ∷ (collector.begin_code y collector_labels ∷ (collector.scan_code y collector_labels
    ∷ (collector.take_code y collector_labels ∷ (collector.marked_code y collector_labels
    ∷ (text_code base 14 ∷ []))))))))))

-- the runtime's blocks
abbrev pub runtime_blocks : Layout → (base heap many : ℕ) → List WSeq
runtime_blocks y base heap many =
    start_code y.base (y.base + first_use heap)
    ∷ (print_code (base + 64) print_label (reg 1) ∷ (room_code y many slow_label
    ∷ (print_blocks (base + 64) print_label ++ collector_blocks y base)))

-- The word code is that of the program, for a heap of so many bytes, with its memory from base on: a translation behind
-- the runtime's blocks and words.
pub record IsBuilt (P : TProg) (base heap : ℕ) (W : WProg) : Type 0 where
  -- the number of registers: those that are written are below it
  pub many : ℕ
  pub translation : IsTranslation P many W
  pub own : translation.own ≡ runtime_words many
  pub rest : List WSeq
  pub blocks : W.blocks ≡ runtime_blocks (program_layout base heap many P) base heap many ++ rest
  pub begins : W.base ≡ base
  pub ends : base + 8 * W.size ≡ (program_layout base heap many P).top
  pub aligned : base % 8 ≡ 0
  pub pages : heap % 4096 ≡ 0
  pub some : 0 < heap
  pub small : (program_layout base heap many P).top < 2 ^ 62

-- Any such word code means the same: it writes the line of the integer with which the program halts, and exits with
-- 0, or that of memory that is wanted, and exits with 7.
abbrev pub EachBuiltMeansTheSame : Type 0
EachBuiltMeansTheSame =
    (P : TProg) → Whole P → Accepted P → (base heap : ℕ) (W : WProg) → IsBuilt P base heap W →
    (place : ℕ → ℕ) → Places place W → (R : WRegs) → AreWords R → MeansTheSame P place W line_texts R
