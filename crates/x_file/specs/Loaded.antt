-- What is to come of a file: an executable that has the code and the data at their addresses, and begins with the code.
use Rattle.std.specs.Prelude.{◌≡◌, ℕ, ◌+◌, ◌-◌, ◌^◌, ◌<◌, ◌≤◌, List, [], ◌∷◌, ◌++◌, length, take, drop}
use Rattle.std.specs.Int.{w64, to_le_bytes}
use Rattle.x_terms.specs.Machine.{Image, State}
use Rattle.x_terms.specs.Elf.{le, IsExecutable, image, IsStart}
use Rattle.x_file.specs.File.{code_address, data_address}

abbrev pub loaded_image : List ℕ → List ℕ → ℕ → Image
loaded_image code content heap = record {
  code = code;
  code_at = code_address;
  data_at = data_address;
  data_end = data_address + (length content + heap);
}

-- the word at an address: of the data, and zeros behind them
abbrev pub content_word : List ℕ → ℕ → ℕ
content_word content a = le (take 8 (drop (a - data_address) content))

pub record IsLoaded (code content : List ℕ) (heap : ℕ) (file : List ℕ) : Type 0 where
  pub executable : IsExecutable file
  pub image_is : image file ≡ loaded_image code content heap
  pub begins : (s : State) → IsStart file s → s.place ≡ code_address
  pub words : (s : State) → IsStart file s → (a : ℕ) → data_address ≤ a → s.memory a ≡ content_word content a

-- words as bytes, the lowest byte first
abbrev pub words_bytes : List ℕ → List ℕ
words_bytes [] = []
words_bytes (w ∷ ws) = to_le_bytes w64 w ++ words_bytes ws

abbrev pub AreWords : List ℕ → Type 0
AreWords [] = Unit {0}
AreWords (w ∷ ws) = (w < 2 ^ 64) × AreWords ws
