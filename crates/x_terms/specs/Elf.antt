-- What Linux makes of a file that it is told to run: the image, and the state in which it begins. The rules are those
-- of ELF (System V ABI, chapters 4 and 5, and its supplement for x86-64). Nothing is said of a file that is otherwise.
use Rattle.std.specs.Prelude.{◌≡◌, ℕ, ◌+◌, ◌-◌, ◌*◌, ◌%◌, ◌^◌, ◌<◌, ◌≤◌, List, [], ◌∷◌, length, take}
use Rattle.std.specs.Prelude.{drop}
use Rattle.std.specs.Prelude.{None}
use Rattle.x_terms.specs.Machine.{Image, State}
use Rattle.x_terms.specs.declared.register.Register.{Register}

-- a number, the lowest byte first; the number of n bytes at a place of a file
abbrev pub le : List ℕ → ℕ
le [] = 0
le (b ∷ bs) = b + 256 * le bs

abbrev pub field : List ℕ → ℕ → ℕ → ℕ
field file at n = le (take n (drop at file))

-- the header: 64 bits, the lowest byte first, an executable with fixed addresses for x86-64, and three program headers
-- behind it
abbrev pub HasHeader : List ℕ → Type 0
HasHeader file =
    (take 7 file ≡ 0x7F ∷ 0x45 ∷ 0x4C ∷ 0x46 ∷ 2 ∷ 1 ∷ 1 ∷ [])  -- EI_MAG, EI_CLASS, EI_DATA, EI_VERSION
    × (field file 16 2 ≡ 2)  -- e_type: ET_EXEC
    × (field file 18 2 ≡ 62)  -- e_machine: EM_X86_64
    × (field file 32 8 ≡ 64)  -- e_phoff
    × (field file 54 2 ≡ 56)  -- e_phentsize
    × (field file 56 2 ≡ 3)  -- e_phnum

-- a program header: type, flags (4 read, 2 write, 1 execute), where its bytes stand in the file, their address, how
-- many there are in the file and in memory
pub record Segment : Type 0 where
  pub kind : ℕ
  pub flags : ℕ
  pub offset : ℕ
  pub address : ℕ
  pub in_file : ℕ
  pub in_memory : ℕ

abbrev pub segment : List ℕ → ℕ → Segment
segment file k = record {
  kind = field file (64 + k * 56) 4;
  flags = field file (68 + k * 56) 4;
  offset = field file (72 + k * 56) 8;
  address = field file (80 + k * 56) 8;
  in_file = field file (96 + k * 56) 8;
  in_memory = field file (104 + k * 56) 8;
}

-- a PT_LOAD segment with these flags: its bytes are in the file, at a place that has the same rest by the page's size
-- as their address; the addresses are those of a process, above the pages that Linux keeps free
abbrev pub Loads : List ℕ → ℕ → Segment → Type 0
Loads file flags s =
    (s.kind ≡ 1) × (s.flags ≡ flags) × (s.in_file ≤ s.in_memory) × (s.offset + s.in_file ≤ length file)
    × (s.offset % 4096 ≡ s.address % 4096) × (65536 ≤ s.address) × (s.address + s.in_memory ≤ 2 ^ 46)

-- PT_GNU_STACK without execute: no data can be executed, though no code jumps there either
abbrev pub NoExecute : Segment → Type 0
NoExecute s = (s.kind ≡ 0x6474E551) × (s.flags ≡ 6)

-- code, data behind it on pages of their own, from an address that is a multiple of 8
abbrev pub IsExecutable : List ℕ → Type 0
IsExecutable file =
    HasHeader file × Loads file 5 (segment file 0) × Loads file 6 (segment file 1) × NoExecute (segment file 2)
    × ((segment file 0).in_memory ≡ (segment file 0).in_file) × ((segment file 1).address % 8 ≡ 0)
    × ((segment file 0).address + (segment file 0).in_memory + 4096 ≤ (segment file 1).address)

abbrev pub image : List ℕ → Image
image file = record {
  code = take (segment file 0).in_file (drop (segment file 0).offset file);
  code_at = (segment file 0).address;
  data_at = (segment file 1).address;
  data_end = (segment file 1).address + (segment file 1).in_memory;
}

-- the word at an address of the data: from the file, and zeros behind it
abbrev pub start_word : List ℕ → Segment → ℕ → ℕ
start_word file s a = le (take 8 (drop (a - s.address) (take s.in_file (drop s.offset file))))

-- e_entry is where it begins. Registers may hold any words, and flags anything. Behind the end of the data nothing is
-- mapped; the words that are given there are never read, for a load from there is stuck.
abbrev pub IsStart : List ℕ → State → Type 0
IsStart file s =
    (s.place ≡ field file 24 8) × (s.flags ≡ None) × (s.calls ≡ [])
    × ((r : Register) → s.registers r < 2 ^ 64)
    × ((a : ℕ) → (segment file 1).address ≤ a → s.memory a ≡ start_word file (segment file 1) a)
