-- When a file is native code of an assembly text, and what that says of the source text that was compiled, and of what
-- `run` shows.
use Rattle.std.specs.Prelude.{◌⊎◌, ℕ, ℤ, List}
use Rattle.f_terms.specs.Ty.{TInt}
use Rattle.f_terms.specs.Tm.{Tm, Term, plain}
use Rattle.f_terms.specs.Eval.{Evaluates}
use Rattle.t_terms.specs.Spanned.{SProg, plain_program}
use Rattle.w_print.specs.Blocks.{integer_line}
use Rattle.w_laws.specs.Built.{full_line}
use Rattle.x_terms.specs.Machine.{State, Answer, Call}
use Rattle.x_terms.specs.Told.{AllWritten}
use Rattle.x_terms.specs.Elf.{IsStart, image}
use Rattle.x_terms.specs.Process.{Ends, EndsFull, EndsWithLine, IsProcessOf}
use Rattle.native.specs.Native.{IsInBounds, IsNative}
use Rattle.native.specs.Listing.{HasNativeCode}
use Rattle.talc_core.specs.FirstFault.{IsChecked, IsAcceptedText}
use Rattle.talc_core.specs.Compiled.{IsCompiled}
use Rattle.talc_core.specs.Shown.{HaltedShown}

-- The source text stands for a well-formed program with integers of 64 bits that the typing rules accept, within the
-- limit on open constructs. The file is native code of that program, with a heap of so many bytes, and the program is
-- not too large for that. Its code is that which a listing shows. What stands between bars is promised as a fact alone.
pub record IsNativeText (heap : ℕ) (source file : List ℕ) : Type 0 where
  pub program : SProg
  pub accepted : IsAcceptedText source program
  pub native : ∥ IsNative heap (plain_program program) file ∥₁
  pub code : HasNativeCode heap (plain_program program) (image file)
  pub bounds : IsInBounds heap (plain_program program)

-- the term evaluates to an integer within some number of turns
abbrev pub HasValue : Term → ℤ → Type 0
HasValue e i = (turns : ℕ) × Evaluates e turns i

-- Each process of native code of a compiled text is one of the source: it shows the integer to which the source
-- evaluates, and goes on for ever where the source evaluates to none, but that it may end with 6 where the system does
-- not take the line, and with 7 for want of memory. What stands between bars is promised as a fact alone.
abbrev pub NativeShowsTheSame : Type 0
NativeShowsTheSame =
    (source target file : List ℕ) (heap : ℕ) → IsCompiled source target → IsNativeText heap target file →
    (term : Tm) → IsChecked source term TInt → (s : State) → IsStart file s →
    ∥ IsProcessOf (HasValue (plain term)) integer_line full_line (image file) s ∥₁

-- A process of native code of a text shows what `run` shows of the text. Where `run` shows a line of it within some
-- number of instructions, the process ends with that line, or for want of memory. Where the process ends with 0, it has
-- written a line that `run` shows within some number.
abbrev pub NativeRunsTheSame : Type 0
NativeRunsTheSame =
    (source file : List ℕ) (heap : ℕ) → IsNativeText heap source file → (s : State) → IsStart file s →
    (world : ℕ → Answer) →
    ((fuel : ℕ) (ran : List ℕ) → HaltedShown fuel source ran →
    ∥ EndsWithLine (image file) world s ran ⊎ EndsFull (image file) world s full_line ∥₁)
    × ((calls : List Call) → Ends (image file) world s 0 calls →
    ∥ ((fuel : ℕ) × (ran : List ℕ) × HaltedShown fuel source ran × AllWritten 1 ran calls) ∥₁)
