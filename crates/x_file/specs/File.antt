-- The bytes of an executable file: the header, three program headers, the code, the data. Code and data begin at fixed
-- addresses; the words behind the data, up to the end of memory, are no part of the file.
use Rattle.std.specs.Prelude.{ℕ, ◌+◌, ◌-◌, ◌*◌, ◌/◌, ◌^◌, ◌≤◌, List, [], ◌∷◌, ◌++◌, length, replicate}
use Rattle.std.specs.Int.{w32, w64, to_le_bytes}

-- where the code begins in the file and in memory, and where the data begin in memory
abbrev pub code_offset : ℕ
code_offset = 0x100

abbrev pub code_address : ℕ
code_address = 0x400100

abbrev pub data_address : ℕ
data_address = 0x10000000

-- where the data begin in the file, behind so many bytes of code: on a page of its own, as in memory
unfoldable pub data_offset : ℕ → ℕ
data_offset n = (n + 0x10FF) / 0x1000 * 0x1000

-- zeros between both
unfoldable pub gap : ℕ → ℕ
gap n = data_offset n - (n + 0x100)

abbrev pub zeros : ℕ → List ℕ
zeros n = replicate n 0

-- What is laid out is apart: code ends a page below the data at least, memory ends where that of a process does. The
-- heap is memory behind the data.
pub record Fits (n l heap : ℕ) : Type 0 where
  pub code_fits : code_address + n + 0x1000 ≤ data_address
  pub memory_fits : data_address + l + heap ≤ 2 ^ 46

-- EI_MAG, EI_CLASS 64 bits, EI_DATA the lowest byte first, EI_VERSION; e_type ET_EXEC, e_machine EM_X86_64, e_version;
-- e_entry; e_phoff, e_shoff; e_flags, e_ehsize, e_phentsize, e_phnum, and of sections none
abbrev pub file_header : List ℕ
file_header =
    0x7F ∷ 0x45 ∷ 0x4C ∷ 0x46 ∷ 2 ∷ 1 ∷ 1 ∷ 0 ∷ 0 ∷ 0 ∷ 0 ∷ 0 ∷ 0 ∷ 0 ∷ 0 ∷ 0
    ∷ 2 ∷ 0 ∷ 62 ∷ 0 ∷ 1 ∷ 0 ∷ 0 ∷ 0 ∷ 0x00 ∷ 0x01 ∷ 0x40 ∷ 0x00 ∷ 0 ∷ 0 ∷ 0 ∷ 0
    ∷ 64 ∷ 0 ∷ 0 ∷ 0 ∷ 0 ∷ 0 ∷ 0 ∷ 0 ∷ 0 ∷ 0 ∷ 0 ∷ 0 ∷ 0 ∷ 0 ∷ 0 ∷ 0
    ∷ 0 ∷ 0 ∷ 0 ∷ 0 ∷ 64 ∷ 0 ∷ 56 ∷ 0 ∷ 3 ∷ 0 ∷ 64 ∷ 0 ∷ 0 ∷ 0 ∷ 0 ∷ 0 ∷ []

-- a number of 64 bits, and one of 32
abbrev pub word_bytes : ℕ → List ℕ
word_bytes n = to_le_bytes w64 n

abbrev pub half_bytes : ℕ → List ℕ
half_bytes n = to_le_bytes w32 n

-- p_offset, p_vaddr, p_paddr
abbrev pub place_bytes : ℕ → ℕ → List ℕ
place_bytes offset address = word_bytes offset ++ (word_bytes address ++ word_bytes address)

-- p_filesz, p_memsz, p_align
abbrev pub size_bytes : ℕ → ℕ → List ℕ
size_bytes in_file in_memory = word_bytes in_file ++ (word_bytes in_memory ++ word_bytes 0x1000)

-- p_type, p_flags, and the above: PT_LOAD of the code, read and execute
abbrev pub code_segment : ℕ → List ℕ
code_segment n = half_bytes 1 ++ (half_bytes 5 ++ (place_bytes code_offset code_address ++ size_bytes n n))

-- PT_LOAD of the data, read and write
abbrev pub data_segment : ℕ → ℕ → ℕ → List ℕ
data_segment offset l m = half_bytes 1 ++ (half_bytes 6 ++ (place_bytes offset data_address ++ size_bytes l m))

-- PT_GNU_STACK, read and write
abbrev pub stack_segment : List ℕ
stack_segment = half_bytes 0x6474E551 ++ (half_bytes 6 ++ (place_bytes 0 0 ++ size_bytes 0 0))

-- for the code its bytes, for the data where they begin, their bytes in the file and in memory
abbrev pub segments : ℕ → ℕ → ℕ → ℕ → List ℕ
segments n offset l m = code_segment n ++ (data_segment offset l m ++ stack_segment)

-- all up to the code
abbrev pub head : ℕ → ℕ → ℕ → ℕ → List ℕ
head n offset l m = file_header ++ (segments n offset l m ++ zeros 24)

abbrev pub head_bytes : ℕ → ℕ → ℕ → List ℕ
head_bytes n l heap = head n (data_offset n) l (l + heap)

abbrev pub file_bytes : List ℕ → List ℕ → ℕ → List ℕ
file_bytes code content heap =
    head_bytes (length code) (length content) heap ++ (code ++ (zeros (gap (length code)) ++ content))
