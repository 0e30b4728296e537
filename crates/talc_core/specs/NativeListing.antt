-- When a page is the listing of the native code of an assembly text, and what it shows.
use Rattle.std.specs.Prelude.{◌≡◌, ℕ, List}
use Rattle.t_terms.specs.Spanned.{SProg, plain_program}
use Rattle.x_terms.specs.Elf.{image}
use Rattle.x_listing.specs.Lines.{ShowsCode}
use Rattle.native.specs.Native.{IsInBounds}
use Rattle.native.specs.Listing.{IsNativeListing, native_lines}
use Rattle.talc_core.specs.declared.status.Status.TheVariants.{Done}
use Rattle.talc_core.specs.FirstFault.{IsAcceptedText}
use Rattle.talc_core.specs.NativeText.{IsNativeText}
use Rattle.talc_core.specs.Shown.{Showing}

-- The source text stands for a well-formed program with integers of 64 bits that the typing rules accept, within the
-- limit on open constructs. The page is the listing of the native code of that program, with a heap of so many bytes,
-- and the program is not too large for that.
pub record IsNativeListingText (heap : ℕ) (source page : List ℕ) : Type 0 where
  pub program : SProg
  pub accepted : IsAcceptedText source program
  pub listing : IsNativeListing heap (plain_program program) page
  pub bounds : IsInBounds heap (plain_program program)

abbrev pub ShowsNativeListing : ℕ → Showing
ShowsNativeListing heap Done source page = IsNativeListingText heap source page
ShowsNativeListing heap other source page = ⊥

-- one page is the listing of a text's native code
abbrev pub OneNativeListing : Type 0
OneNativeListing =
    (heap : ℕ) (source a b : List ℕ) → IsNativeListingText heap source a → IsNativeListingText heap source b → a ≡ b

-- The lines of the page show the code of the file that `native` makes of the same text: all of its bytes in order, each
-- instruction at its address, as the processor reads it there.
abbrev pub NativeListingShowsTheFile : Type 0
NativeListingShowsTheFile =
    (heap : ℕ) (source page file : List ℕ) (listed : IsNativeListingText heap source page) →
    IsNativeText heap source file →
    ShowsCode (image file).code_at (native_lines heap (plain_program listed.program)) (image file).code
