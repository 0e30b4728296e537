-- What the steps of making a listing do.
use Rattle.std.specs.Prelude.{◌≡◌, ◌≤◌, ℕ, List, ◌++◌, Some, length, take, Bool, true, false}
use Rattle.idx_core.specs.declared.span.Span.{Span}
use Rattle.page_core.specs.Spot.{lines}
use Rattle.t_terms.specs.Tree.{TProg, TSeq}
use Rattle.t_terms.specs.Spanned.{SBlock}
use Rattle.t_rules.specs.Known.{code_at}
use Rattle.listing.specs.Before.{in_block, steps_to}
use Rattle.listing.specs.Listing.{IsBegun, IsBlock}
use Rattle.t_check.specs.Walks.{IsWalk, walked}
use Rattle.listing.specs.declared.place.Place.{Place}
use Rattle.listing.specs.declared.lister.Lister.{Lister}

-- the number is that of the line of the byte at which the place stands
pub record HasLine (p : Place) : Type 0 where
  pub bound : p.at ≤ length p.text.now
  pub number : p.number ≡ lines (take p.at p.text.now)

-- the text and the program that a listing is made of
abbrev pub text_of : Lister → List ℕ
text_of l = l.place.text.now

abbrev pub program_of : Lister → TProg
program_of l = walked l.walk

pub record IsLister (l : Lister) : Type 0 where
  pub place : HasLine l.place
  pub walk : IsWalk l.walk

-- both make the listing of the same
abbrev pub OfTheSame : Lister → Lister → Type 0
OfTheSame a b = (text_of b ≡ text_of a) × (program_of b ≡ program_of a)

-- such rows are put behind those that there are
abbrev pub Adds : (List ℕ → Type 0) → List ℕ → List ℕ → Type 0
Adds AreRows old new = (rows : List ℕ) × AreRows rows × (new ≡ old ++ rows)

-- each place of a block is there, of so many instructions
abbrev pub HasPlaces : TProg → (block count : ℕ) → Type 0
HasPlaces P block count = (i : ℕ) → i ≤ count → (c : TSeq) × (code_at P block i ≡ Some c)

-- the rows of a block that has the place, up to it, or of one that has not
abbrev pub IsBlockTo : List ℕ → TProg → Span → ℕ → SBlock → Bool → List ℕ → Type 0
IsBlockTo text P place b x true rows =
    (in_block place x ≡ true) × IsBegun text P b x (steps_to place x.body) rows
IsBlockTo text P place b x false rows = (in_block place x ≡ false) × IsBlock text P b x rows
