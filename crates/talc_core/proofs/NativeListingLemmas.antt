-- The listing of native code is one page, and shows the code of its file.
use Rattle.std.proofs.Common.{◌≡◌, ◌∙◌, ℕ, ap, sym, subst, subst₂}
use Rattle.t_terms.specs.Spanned.{plain_program}
use Rattle.t_terms.specs.Tree.{TProg}
use Rattle.x_terms.specs.Machine.{Image}
use Rattle.x_terms.specs.Elf.{image}
use Rattle.x_file.specs.File.{code_address}
use Rattle.x_listing.specs.Lines.{page_text, ShowsCode}
use Rattle.native.specs.Listing.{HasNativeCode, native_bytes, native_lines}
use Rattle.talc_core.specs.NativeListing.{OneNativeListing, NativeListingShowsTheFile}
use Rattle.talc_core.specs.TextLaws.{TextLaws}
use Rattle.talc_core.proofs.FaultLemmas.{same_program}

pub one_native_listing : TextLaws → OneNativeListing
one_native_listing laws heap source a b x y =
    x.listing.is ∙ ap (λ p. page_text (native_lines heap (plain_program p)))
    (same_program laws source x.program y.program x.accepted.0 y.accepted.0) ∙ sym y.listing.is

-- lines that show the native code show that of an image which has it
shows_image : (heap : ℕ) (P : TProg) (m : Image) → HasNativeCode heap P m →
    ShowsCode code_address (native_lines heap P) (native_bytes heap P) → ShowsCode m.code_at (native_lines heap P) m.code
shows_image heap P m has shows =
    subst₂ (λ a code. ShowsCode a (native_lines heap P) code) (sym has.0) (sym has.1) shows

pub native_listing_shows_the_file : TextLaws → NativeListingShowsTheFile
native_listing_shows_the_file laws heap source page file listed native =
    shows_image heap (plain_program listed.program) (image file)
    (subst (λ p. HasNativeCode heap (plain_program p) (image file))
    (same_program laws source native.program listed.program native.accepted.0 listed.accepted.0) native.code)
    listed.listing.shows
