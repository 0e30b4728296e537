-- The part of a whole that its value is that of.
use Rattle.std.specs.Prelude.{ℕ, Option, Some, None}
use Rattle.idx_core.specs.declared.span.Span.{Span}
use Rattle.f_terms.specs.Tm.{Spn, Tm, SLet, SOpen, span_of}
use Rattle.f_terms.specs.declared.node.FShape.{FShape}
use Rattle.f_terms.specs.declared.node.FShape.TheVariants.{Let, Open}

-- what the outermost `let`s and `open`s of a term go on with
abbrev pub value_part : Tm → Tm
value_part (SLet s a b) = value_part b
value_part (SOpen s a b) = value_part b
value_part e = e

-- its place, where it is not the whole
abbrev pub value_place : Tm → Option Spn
value_place (SLet s a b) = Some (span_of (value_part b))
value_place (SOpen s a b) = Some (span_of (value_part b))
value_place e = None

-- a place as the code holds it
abbrev pub of_spn : Spn → Span
of_spn s = record { start = s.0; end = s.1 }

-- the second part of a `let` or an `open`, by its number
abbrev pub rest_of : FShape → Option ℕ
rest_of (Let a b) = Some b
rest_of (Open a b) = Some b
rest_of other = None
