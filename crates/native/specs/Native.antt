-- What native code of a program is: an executable file whose processes do what the program does; and which programs
-- have none, because they are too large.
use Rattle.std.specs.Prelude.{◌≡◌, ◌≤◌, ◌+◌, ◌*◌, ◌^◌, ℕ, ℤ, List, Some, length, slice_get}
use Rattle.t_terms.specs.Tree.{TBlock, TProg}
use Rattle.t_rules.specs.Machine.{Halts, HaltedAfter}
use Rattle.t_rules.specs.Erase.{EAt, erase_block, erase_blocks, erase_heap, no_ewords}
use Rattle.w_print.specs.Blocks.{integer_line}
use Rattle.w_laws.specs.Built.{first_use, full_line}
use Rattle.w_laws.specs.Enough.{bytes_made}
use Rattle.w_gen.specs.Data.{word_code}
use Rattle.w_gen.specs.Limits.{registers_of, IsTooLarge}
use Rattle.x_terms.specs.Machine.{Answer, State}
use Rattle.x_terms.specs.Elf.{IsExecutable, IsStart, image}
use Rattle.x_terms.specs.Process.{EndsWithLine, IsProcessOf}
use Rattle.x_laws.specs.Layout.{program_code}
use Rattle.x_file.specs.File.{code_address, data_address}
use Rattle.x_pass.specs.Homes.{home}
use Rattle.x_program.specs.Made.{base_of}

-- The program halts with i, and all tuples that it makes until then fit into the part of the heap that is in use at
-- first: all of the heap, of which 1 MiB at most.
pub record MakesFewTuples (heap : ℕ) (P : TProg) (i : ℤ) : Type 0 where
  pub first : TBlock
  pub is_first : slice_get P.blocks 0 ≡ Some first
  pub steps : ℕ
  pub halted : HaltedAfter P steps i
  pub few :
      bytes_made (erase_blocks P) steps (EAt (erase_heap P) no_ewords (erase_block first)) ≤ first_use heap

-- The file is native code of the program, with a heap of so many bytes.
pub record IsNative (heap : ℕ) (P : TProg) (file : List ℕ) : Type 0 where
  -- Linux loads it.
  pub executable : IsExecutable file
  -- Each process that begins from it, whatever registers and flags hold, is one of the program, whatever the system
  -- answers: it shows the integer with which the program halts, or says that memory is wanted, or goes on for ever.
  pub runs : (s : State) → IsStart file s → IsProcessOf (Halts P) integer_line full_line (image file) s
  -- It does not end for want of memory where the program makes few tuples.
  pub enough : (s : State) → IsStart file s → (i : ℤ) → MakesFewTuples heap P i → (world : ℕ → Answer) →
      EndsWithLine (image file) world s (integer_line i)

-- how many registers the word code of a program has: those of the program, and 16 of the runtime
abbrev pub native_registers : TProg → ℕ
native_registers P = registers_of P + 16

-- the address at which its memory begins: behind a word for each register
abbrev pub native_base : TProg → ℕ
native_base P = base_of (native_registers P)

-- The program is in bounds: it names no register from 2 ^ 20 on and no field from 2 ^ 28 on, its native code ends a
-- page below the data at least, and its memory, with so many bytes of heap, ends where that of a process does.
pub record IsInBounds (heap : ℕ) (P : TProg) : Type 0 where
  pub small : IsTooLarge (native_base P) heap P → ⊥
  pub code :
      code_address + length (program_code home code_address (word_code P (native_base P) heap).blocks) + 0x1000
      ≤ data_address
  pub memory : native_base P + 8 * (word_code P (native_base P) heap).size ≤ 2 ^ 46
