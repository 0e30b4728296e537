-- Laws of programs that are cut at a place.
use Rattle.std.specs.Prelude.{◌≡◌, ℕ, false}
use Rattle.idx_core.specs.declared.span.Span.{Span}
use Rattle.t_types.specs.Fits.{RegTypes}
use Rattle.t_terms.specs.Spanned.{SProg, plain_program}
use Rattle.t_terms.specs.Whole.{WellFormedProgram}
use Rattle.t_terms.specs.declared.fault.TCode.{TCode}
use Rattle.t_rules.specs.Rules.{Accepted}
use Rattle.t_rules.specs.Known.{KnownAt}
use Rattle.t_rules.specs.Faults.{ProgramFault}
use Rattle.listing.specs.Before.{is_before_blocks, IsBefore}
use Rattle.listing.specs.Cut.{cut}

-- a program that is cut at the place of its first fault is accepted, where the fault is one of the blocks
abbrev pub CutIsAccepted : Type 0
CutIsAccepted =
    (P : SProg) (code : TCode) (place : Span) → WellFormedProgram (plain_program P) → ProgramFault P code place →
    is_before_blocks place P ≡ false → Accepted (plain_program (cut place P))

-- what is known before the place in the program that is cut is known in the whole program
abbrev pub KnownBefore : Type 0
KnownBefore =
    (P : SProg) (place : Span) (b i n : ℕ) (g : RegTypes) → IsBefore place P.blocks b i →
    KnownAt (plain_program (cut place P)) b i n g → KnownAt (plain_program P) b i n g
