-- What the reading of a source text says of its term, for the checker.
use Rattle.std.proofs.Common.{◌≡◌, ◌≤◌, ℕ, List, true, arith, refl, inr}
use Rattle.idx_core.specs.declared.span.Span.{Span}
use Rattle.f_terms.specs.declared.fault.Code.TheVariants.{E15, E19}
use Rattle.f_terms.specs.Ty.{Ty, TInt}
use Rattle.f_terms.specs.Tm.{Tm, plain, span_of}
use Rattle.f_terms.specs.Cells.{has_cells}
use Rattle.f_terms.specs.Limits.{nodes}
use Rattle.f_terms.specs.Scope.{IsClosed}
use Rattle.f_grammar.specs.Text.{ClosedTerms}
use Rattle.f_terms.specs.Read.{place}
use Rattle.talc_core.specs.declared.fault.Fault.TheVariants.{Source}
use Rattle.talc_core.specs.declared.refusal.Refusal.TheVariants as refusal
use Rattle.talc_core.specs.FirstFault.{AProgram, CellFree, IsParsed, IsChecked}
use Rattle.talc_core.specs.OnTexts.{RefusedBy}

-- the term of a text is closed and small
pub closed : ClosedTerms → (text : List ℕ) (term : Tm) → IsParsed text term → IsClosed (plain term)
closed closed_terms text term read = closed_terms text term read.source

pub few : (text : List ℕ) (term : Tm) → IsParsed text term → nodes (plain term) ≤ 4294967295
few text term read = let small : nodes (plain term) ≤ 100000 = read.few_nodes in omega arith

-- a term of another type than int is no program
pub no_program : (text : List ℕ) (term : Tm) (type : Ty) (span : Span) → IsChecked text term type → (type ≡ TInt → ⊥) →
    place span ≡ span_of term → RefusedBy AProgram text (refusal.Fault (Source E15 span))
no_program text term type span checked other whole =
    inr (record { term = term; type = type; checked = checked; other = other; is_code = refl; whole = whole })

-- one with cells is no program that is evaluated
pub of_cells : (text : List ℕ) (term : Tm) (span : Span) → IsChecked text term TInt → has_cells (plain term) ≡ true →
    place span ≡ span_of term → RefusedBy CellFree text (refusal.Fault (Source E19 span))
of_cells text term span checked cells whole =
    inr (record { term = term; checked = checked; cells = cells; is_code = refl; whole = whole })
