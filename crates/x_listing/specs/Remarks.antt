-- What a listing says of blocks of word code.
use Rattle.std.specs.Prelude.{ℕ, List, [], slice_index_or}

-- what is said of a block: its name, and remarks in front of its instructions (where there is nothing to say: none)
pub record Note : Type 0 where
  pub name : List ℕ
  pub before : List (List ℕ)

-- of a block of which nothing is said
abbrev pub no_note : Note
no_note = record { name = []; before = [] }

abbrev pub note_at : List Note → ℕ → Note
note_at notes l = slice_index_or notes l no_note

abbrev pub name_at : List Note → ℕ → List ℕ
name_at notes l = (note_at notes l).name

-- the remark in front of instruction k
abbrev pub text_before : List (List ℕ) → ℕ → List ℕ
text_before before k = slice_index_or before k []
