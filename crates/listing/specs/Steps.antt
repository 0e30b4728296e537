-- What the steps of cutting a program do. Nothing that is promised of a cut program rests on this file but `IsCount`.
use Rattle.std.specs.Prelude.{◌≡◌, ◌≤◌, ℕ, zero, suc, length, take, Bool, true, false, Option, Some, None, List, []}
use Rattle.std.specs.Prelude.{◌∷◌}
use Rattle.idx_core.specs.declared.span.Span.{Span}
use Rattle.t_terms.specs.Tree.{TInstr}
use Rattle.t_terms.specs.Spanned.{SBlock}
use Rattle.listing.specs.Before.{is_at, in_body, in_block, steps_to}
use Rattle.listing.specs.Cut.{way_outs, cut_blocks}

-- none of the first i instructions stands at the place
abbrev pub Clear : Span → ℕ → List (TInstr × Span) → Type 0
Clear place zero xs = Unit {0}
Clear place (suc i) [] = ⊥
Clear place (suc i) (x ∷ xs) = (is_at place x.1 ≡ false) × Clear place i xs

-- the number of the first instruction at the place, where there is one
abbrev pub IsFirstAt : Span → List (TInstr × Span) → Option ℕ → Type 0
IsFirstAt place xs None = (in_body place xs ≡ false) × (steps_to place xs ≡ xs)
IsFirstAt place xs (Some n) = (in_body place xs ≡ true) × (n ≤ length xs) × (steps_to place xs ≡ take n xs)

-- the end behind these instructions stands at the place, and has this number; or it does not stand there
abbrev pub IsLastAt : Span → List (TInstr × Span) → Span → Option ℕ → Type 0
IsLastAt place xs end None = is_at place end ≡ false
IsLastAt place xs end (Some n) = (is_at place end ≡ true) × (n ≡ length xs)

-- how many instructions of the block stand before the place, where the block has it
abbrev pub IsCount : Span → SBlock → Option ℕ → Type 0
IsCount place b None = in_block place b ≡ false
IsCount place b (Some n) =
    (in_block place b ≡ true) × (n ≤ length b.body) × (steps_to place b.body ≡ take n b.body)

-- how many instructions of the block stay, where the place was met before it, and where not
abbrev pub IsCountAt : Span → Bool → SBlock → Option ℕ → Type 0
IsCountAt place true b o = o ≡ Some 0
IsCountAt place false b o = IsCount place b o

-- what becomes of the blocks that are left, where the place was met before them, and where not
abbrev pub left_of : Span → Bool → List SBlock → List SBlock
left_of place true bs = way_outs place bs
left_of place false bs = cut_blocks place bs
