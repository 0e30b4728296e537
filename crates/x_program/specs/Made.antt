-- What an executable file of a program is.
use Rattle.std.specs.Prelude.{◌≡◌, ℕ, ◌+◌, ◌*◌, ◌^◌, ◌≤◌, ◌++◌, List, length, map, replicate}
use Rattle.x_terms.specs.Machine.{State}
use Rattle.x_terms.specs.Elf.{IsExecutable, IsStart, image}
use Rattle.x_laws.specs.Layout.{program_code}
use Rattle.x_laws.specs.Laws.{IsCompiled, held_words}
use Rattle.x_file.specs.File.{code_address, data_address}
use Rattle.x_pass.specs.Homes.{home, slots_at, most}
use Rattle.x_pass.specs.Short.{AreSeqs}
use Rattle.w_terms.specs.Tree.{WProg}
use Rattle.w_terms.specs.Machine.{AreWords, datum_word}
use Rattle.w_terms.specs.Read as read
use Rattle.w_terms.specs.declared.program.WBlock.{WBlock}
use Rattle.w_terms.specs.declared.program.WDatum.{WDatum}

-- where the memory of a program begins: behind a word for each register
abbrev pub base_of : ℕ → ℕ
base_of n = slots_at + 8 * n

-- the words of the data: zeros for the registers, and what the program gives
abbrev pub data_words : (ℕ → ℕ) → ℕ → List WDatum → List ℕ
data_words place n words = replicate n 0 ++ map (datum_word place) words

-- the program of blocks and words, of which n registers have homes
abbrev pub program_of : ℕ → List WBlock → List WDatum → ℕ → WProg
program_of n blocks words size =
    record { blocks = map read.block blocks; base = base_of n; image = words; size = size }

-- A program of which n registers have homes has room: these have addresses below 2 ^ 31, all instructions have code,
-- the code ends a page below the data at least, and memory ends where that of a process does.
pub record HasRoom (n : ℕ) (p : WProg) : Type 0 where
  pub low : n ≤ most
  pub fine : AreSeqs n p.blocks
  pub code : code_address + length (program_code home code_address p.blocks) + 0x1000 ≤ data_address
  pub memory : p.base + 8 * p.size ≤ 2 ^ 46
  pub image : p.base + 8 * length p.image ≤ 2 ^ 46

-- Linux loads the file, with the code of the program at its address. Each process that begins from it is of that code,
-- of which n registers have homes, and their homes have words. The program has room.
pub record IsMade (n : ℕ) (p : WProg) (file : List ℕ) : Type 0 where
  pub fits : HasRoom n p
  pub executable : IsExecutable file
  pub code_at : (image file).code_at ≡ code_address
  pub code : (image file).code ≡ program_code home code_address p.blocks
  pub compiled : (s : State) → IsStart file s → IsCompiled (image file) n home p s
  pub words : (s : State) → IsStart file s → AreWords (held_words home s)
