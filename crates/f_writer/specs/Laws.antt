-- What the canonical text of a term stands for.
use Rattle.std.specs.Prelude.{◌≡◌, ℕ, List}
use Rattle.f_terms.specs.Tm.{Term, Tm, plain}
use Rattle.f_grammar.specs.Text.{Source, SourceWithin, FewBytes}
use Rattle.f_writer.specs.Fits.{CanBeWritten}
use Rattle.f_writer.specs.Notation.{term_text}

-- the text of a term that can be written stands for the term, places aside
abbrev pub StandsForItself : Type 0
StandsForItself = (e : Term) → CanBeWritten e → (tm : Tm) × Source (term_text e) tm × (plain tm ≡ e)

-- a term for which a text stands, of no more bytes than a source may have, can be written
abbrev pub ReadTermsCanBeWritten : Type 0
ReadTermsCanBeWritten = (text : List ℕ) (a : Tm) → FewBytes text → Source text a → CanBeWritten (plain a)

-- so a text that is read, written and read again gives the same term, places aside, whichever term it is read as; and
-- that is written as the same bytes
abbrev pub WrittenTwiceIsWrittenOnce : Type 0
WrittenTwiceIsWrittenOnce = (text : List ℕ) (a : Tm) → FewBytes text → Source text a →
    ((b : Tm) × Source (term_text (plain a)) b)
    × ((b : Tm) → Source (term_text (plain a)) b → (plain b ≡ plain a) × (term_text (plain b) ≡ term_text (plain a)))

-- a text that stands for a term within the limits is written as one that does, where that is not too long: the
-- canonical text has no more constructs open than any text of the term
abbrev pub WrittenTextsAreWithin : Type 0
WrittenTextsAreWithin = (text : List ℕ) (a : Tm) → SourceWithin text a → FewBytes (term_text (plain a)) →
    (b : Tm) × SourceWithin (term_text (plain a)) b × (plain b ≡ plain a)
