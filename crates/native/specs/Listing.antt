-- What a listing of native code is.
use Rattle.std.specs.Prelude.{◌≡◌, ℕ, List}
use Rattle.t_terms.specs.Tree.{TProg}
use Rattle.t_rules.specs.Erase.{erase_blocks}
use Rattle.w_terms.specs.Tree.{WProg}
use Rattle.w_gen.specs.Data.{word_code}
use Rattle.x_terms.specs.Machine.{Image}
use Rattle.x_laws.specs.Layout.{program_code}
use Rattle.x_file.specs.File.{code_address}
use Rattle.x_pass.specs.Homes.{home}
use Rattle.x_listing.specs.Lines.{Line, page_text, program_lines, ShowsCode}
use Rattle.x_listing.specs.Notes.{notes_of}
use Rattle.native.specs.Native.{native_base}

-- the word code of a program, and its bytes
abbrev pub native_words : (heap : ℕ) → TProg → WProg
native_words heap P = word_code P (native_base P) heap

abbrev pub native_bytes : (heap : ℕ) → TProg → List ℕ
native_bytes heap P = program_code home code_address (native_words heap P).blocks

-- an image has this code
abbrev pub HasNativeCode : (heap : ℕ) → TProg → Image → Type 0
HasNativeCode heap P m = (m.code_at ≡ code_address) × (m.code ≡ native_bytes heap P)

-- the lines of the listing
abbrev pub native_lines : (heap : ℕ) → TProg → List Line
native_lines heap P = program_lines (notes_of (erase_blocks P)) (native_words heap P)

-- The page is the listing of the native code of the program, with a heap of so many bytes: it has these lines, and they
-- show the code, byte by byte.
pub record IsNativeListing (heap : ℕ) (P : TProg) (page : List ℕ) : Type 0 where
  pub is : page ≡ page_text (native_lines heap P)
  pub shows : ShowsCode code_address (native_lines heap P) (native_bytes heap P)
