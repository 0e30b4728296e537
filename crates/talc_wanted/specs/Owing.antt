-- A table as data, its values aside, and what the machine over it owes.
use Rattle.std.specs.Prelude.{◌≡◌, ℕ, List, [], ◌∷◌, ◌++◌, ◌&&◌, take, Option, Some, None, Bool, true, false}
use Rattle.std.specs.Prelude.{if◌then◌else◌}
use Rattle.text_core.specs.Table.{Table, Stack, Tm, Nt, Do, Mark, then_more}
use Rattle.talc_wanted.specs.declared.language.Sym.{Sym}
use Rattle.talc_wanted.specs.declared.language.Sym.TheVariants.{Token, Line}
use Rattle.talc_wanted.specs.Wanted.{Machine}

-- Which tokens are of a class, and for which tokens the rows of a kind are; whether two lines are one, and the line of
-- a whole text. A row says of a line and a kind what is owed after a first token of it. A line may go on, after its own
-- rows, as another line does, and then owes more; where that line does, too, its row stands behind. Last, the lines
-- that may be of no tokens. What a row owes has its next symbol last.
pub record Owes (C L K T : Type 0) : Type 0 where
  pub fits : C → T → Bool
  pub starts : K → T → Bool
  pub same : L → L → Bool
  pub first : L
  pub rows : List (L × K × List (Sym C L))
  pub others : List (L × L × List (Sym C L))
  pub ends : List L

-- the last first
abbrev pub from_top : {A : Type 0} → List A → List A
from_top [] = []
from_top (x ∷ xs) = from_top xs ++ x ∷ []

-- the one, or where there is none the other
abbrev pub first_or : {A : Type 0} → Option A → Option A → Option A
first_or None o = o
first_or (Some x) o = Some x

abbrev pub onto : {A : Type 0} → Option (List A) → List A → Option (List A) → Option (List A)
onto None s other = other
onto (Some r) s other = Some (r ++ s)

module _ {C L K T : Type 0} (o : Owes C L K T) where
  -- what the first of these rows for this line and this token owes
  abbrev pub row_in : List (L × K × List (Sym C L)) → L → T → Option (List (Sym C L))
  row_in [] l c = None
  row_in ((m, kind, row) ∷ rows) l c =
      if o.same m l && o.starts kind c then Some (from_top row) else row_in rows l c

  abbrev pub after_in : List (L × L × List (Sym C L)) → L → T → Option (List (Sym C L))
  after_in [] l c = row_in o.rows l c
  after_in ((m, other, more) ∷ others) l c =
      if o.same m l then first_or (row_in o.rows l c) (then_more (after_in others other c) (from_top more))
      else after_in others l c

  -- what is owed of a line after a token, or none where it does not begin with it
  abbrev pub after : L → T → Option (List (Sym C L))
  after = after_in o.others

  abbrev pub ends_in : List L → L → Bool
  ends_in [] l = false
  ends_in (m ∷ ms) l = if o.same m l then true else ends_in ms l

  -- a line may be of no tokens
  abbrev pub may_end : L → Bool
  may_end = ends_in o.ends

  -- what is owed after one more token, or none where it may not stand here
  abbrev pub next_owed : List (Sym C L) → T → Option (List (Sym C L))
  next_owed [] c = None
  next_owed (Token k ∷ s) c = if o.fits k c then Some s else None
  next_owed (Line l ∷ s) c = onto (after l c) s (if may_end l then next_owed s c else None)

  -- all that is owed may end
  abbrev pub may_finish : List (Sym C L) → Bool
  may_finish [] = true
  may_finish (Token k ∷ s) = false
  may_finish (Line l ∷ s) = if may_end l then may_finish s else false

  -- the machine over it
  abbrev pub owing : Machine (List (Sym C L)) T
  owing = record { start = Line o.first ∷ []; step = next_owed; ends = may_finish }

-- this is put onto what is kept, if any
abbrev pub IsPut : {A : Type 0} → Option (List A) → (old new : List A) → Bool → Type 0
IsPut {A} next old new true = (row : List A) × (next ≡ Some (from_top row)) × (new ≡ old ++ row)
IsPut next old new false = (next ≡ None) × (new ≡ old)

-- the row is what is owed
abbrev pub IsRow : {A : Type 0} → Option (List A) → List A → Bool → Type 0
IsRow next row true = next ≡ Some (from_top row)
IsRow next row false = next ≡ None

-- so many of the symbols that are kept stay, and those of the row come onto them
abbrev pub IsStep : {A : Type 0} → Option (List A) → (owed row : List A) → Option ℕ → Type 0
IsStep next owed row None = next ≡ None
IsStep next owed row (Some n) = next ≡ Some (from_top (take n owed ++ row))

-- the token was read, or may not stand here
abbrev pub Advances : {A : Type 0} → Option (List A) → (old new : List A) → Bool → Type 0
Advances next old new true = next ≡ Some (from_top new)
Advances next old new false = (next ≡ None) × (new ≡ old)

-- how a table is kept with its values aside: what its lines are there
abbrev pub kept : {L : Type 0} (g : Table) → (g.Line → L) → Stack g → List (Sym g.Class L)
kept g line [] = []
kept g line (Tm c ∷ s) = Token c ∷ kept g line s
kept g line (Nt n ∷ s) = Line (line n) ∷ kept g line s
kept g line (Do a ∷ s) = kept g line s
kept g line (Mark ∷ s) = kept g line s

abbrev pub kept_row : {L : Type 0} (g : Table) → (g.Line → L) → Option (Stack g) → Option (List (Sym g.Class L))
kept_row g line None = None
kept_row g line (Some r) = Some (kept g line r)

-- and the data say the same of it
pub record IsKept {L K : Type 0} (g : Table) (o : Owes g.Class L K g.Tok) (line : g.Line → L) : Type 0 where
  pub same_fits : (k : g.Class) (c : g.Tok) → o.fits k c ≡ g.fits k c
  pub same_after : (n : g.Line) (c : g.Tok) → after o (line n) c ≡ kept_row g line (g.after n c)
  pub same_ends : (n : g.Line) → may_end o (line n) ≡ g.may_end n
  pub same_first : o.first ≡ line g.first
