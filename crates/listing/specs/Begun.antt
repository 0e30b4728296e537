-- The listing of an assembly program up to a place: the rows of what typing looks at before it.
use Rattle.std.specs.Prelude.{◌≡◌, ℕ, suc, List, [], ◌∷◌, ◌++◌}
use Rattle.std.specs.Bool.{MatchBool}
use Rattle.idx_core.specs.declared.span.Span.{Span}
use Rattle.t_terms.specs.Tree.{TProg}
use Rattle.t_terms.specs.Spanned.{SBlock, SProg, plain_program}
use Rattle.listing.specs.Before.{is_before_blocks, in_block, steps_to}
use Rattle.listing.specs.Listing.{IsBegun, IsBlock}

-- rows of blocks, of which the first is block b, up to the first place of that span: those of each block before it, and
-- those of the one that it is in, up to it
abbrev pub AreBlocksTo : List ℕ → TProg → Span → ℕ → List SBlock → List ℕ → Type 0
AreBlocksTo text P place b [] rows = rows ≡ []
AreBlocksTo text P place b (x ∷ xs) rows =
    MatchBool (in_block place x) (IsBegun text P b x (steps_to place x.body) rows)
    ((block rest : List ℕ) × IsBlock text P b x block × AreBlocksTo text P place (suc b) xs rest
    × (rows ≡ block ++ rest))

-- The listing of a program that stands in the text up to a place: nothing where the place is the label of the first
-- block or a field of the data, since typing looks at these before it looks at any block.
abbrev pub IsListingTo : List ℕ → SProg → Span → List ℕ → Type 0
IsListingTo text program place rows =
    MatchBool (is_before_blocks place program) (rows ≡ [])
    (AreBlocksTo text (plain_program program) place 0 program.blocks rows)
