-- Laws of the sources of numbers.
use Rattle.std.specs.Prelude.{◌≡◌, ℕ, ℤ, false}
use Rattle.idx_core.specs.declared.span.Span.{Span}
use Rattle.f_terms.specs.declared.fault.Code.{Code}
use Rattle.f_terms.specs.Ty.{TInt, NoTys}
use Rattle.f_terms.specs.Tm.{Tm, plain}
use Rattle.f_terms.specs.Read.{place}
use Rattle.f_terms.specs.Accepted.{IsAccepted}
use Rattle.f_terms.specs.Faults.{Fault}
use Rattle.f_terms.specs.Cells.{has_cells}
use Rattle.f_terms.specs.Eval.{Evaluates}
use Rattle.f_grammar.specs.Text.{SourceWithin, FirstFault}
use Rattle.f_seeds.specs.Source.{source}

-- the source of every number is the text of a program within the limits, which has no cells and evaluates to an integer
-- within 1280 turns
abbrev pub SourcesArePrograms : Type 0
SourcesArePrograms = (n : ℕ) → (term : Tm) × SourceWithin (source n) term × IsAccepted (plain term) TInt
    × (has_cells (plain term) ≡ false) × ((i : ℤ) × Evaluates (plain term) 1280 i)

-- so it has no first fault of reading, and the term for which it stands none of checking
abbrev pub SourcesHaveNoFault : Type 0
SourcesHaveNoFault =
    (n : ℕ) → ((code : Code) (span : Span) → ¬ FirstFault (source n) code span) ×
    ((term : Tm) (code : Code) (span : Span) → SourceWithin (source n) term → ¬ Fault term 0 NoTys code (place span))
