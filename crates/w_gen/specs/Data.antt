-- Where the data of a program stand, and the whole of its word code.
use Rattle.std.specs.Prelude.{ℕ, ◌+◌, ◌-◌, ◌*◌, ◌/◌, List, [], ◌∷◌, ◌++◌, length, slice_index}
use Rattle.t_terms.specs.Tree.{TData, TProg}
use Rattle.t_rules.specs.Erase.{erase_blocks, erase_heap}
use Rattle.w_terms.specs.Tree.{WSeq, WProg}
use Rattle.w_terms.specs.declared.program.WDatum.{WDatum}
use Rattle.w_rooms.specs.Numbers.{bytes}
use Rattle.w_laws.specs.Code.{data_words, own_words}
use Rattle.w_laws.specs.Translate.{blocks_of}
use Rattle.w_laws.specs.Built.{runtime_blocks, runtime_words, program_layout}
use Rattle.w_gen.specs.Limits.{registers_of}

-- the address of the first field of each tuple, where the first word of all is at the address a
abbrev pub addresses_of : ℕ → List TData → List ℕ
addresses_of a [] = []
addresses_of a (t ∷ ts) = (a + 8) ∷ addresses_of (a + bytes (length t)) ts

-- as `translated` of `w_laws`, with the addresses in a list
abbrev pub generated : ℕ → ℕ → ℕ → List WSeq → List WDatum → TProg → WProg
generated base size many runtime own P = record {
  blocks = blocks_of (slice_index (addresses_of (base + 8 * own_words many) P.heap)) runtime (erase_blocks P);
  base = base;
  image = own ++ data_words (slice_index (addresses_of (base + 8 * own_words many) P.heap)) (erase_heap P);
  size = size;
}

-- the word code of a program, for a heap of so many bytes, with its memory from base on
abbrev pub word_code : TProg → (base heap : ℕ) → WProg
word_code P base heap =
    let many = registers_of P in let y = program_layout base heap many P in
    generated base ((y.top - base) / 8) many (runtime_blocks y base heap many) (runtime_words many) P
