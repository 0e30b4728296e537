-- What of a program stands before a place, in the order in which typing looks at it: the first block's label and the
-- data come before all blocks, and then the blocks in order, each with its instructions and its end.
use Rattle.std.specs.Prelude.{ℕ, zero, suc, ◌≡◌, ◌≤◌, length, ◌==◌, ◌&&◌, ◌||◌, if◌then◌else◌, Bool, true, false}
use Rattle.std.specs.Prelude.{List, [], ◌∷◌}
use Rattle.std.specs.List.{list_any}
use Rattle.idx_core.specs.declared.span.Span.{Span}
use Rattle.t_terms.specs.Tree.{TInstr}
use Rattle.t_terms.specs.Spanned.{SBlock, SDatum, SData, SProg}

-- what has this span stands at the place
abbrev pub is_at : Span → Span → Bool
is_at place span = span.start == place.start && span.end == place.end

-- the first block's label, or a field of the data, stands at the place
abbrev pub in_first : Span → List SBlock → Bool
in_first place [] = false
in_first place (b ∷ bs) = is_at place b.name

abbrev pub in_fields : Span → List SDatum → Bool
in_fields place xs = list_any (λ (x : SDatum). is_at place x.span) xs

abbrev pub in_heap : Span → List SData → Bool
in_heap place xs = list_any (λ (x : SData). in_fields place x.fields) xs

abbrev pub is_before_blocks : Span → SProg → Bool
is_before_blocks place P = in_first place P.blocks || in_heap place P.heap

-- an instruction, or the end, of the block stands at the place
abbrev pub in_body : Span → List (TInstr × Span) → Bool
in_body place xs = list_any (λ (x : TInstr × Span). is_at place x.1) xs

abbrev pub in_block : Span → SBlock → Bool
in_block place b = in_body place b.body || is_at place b.last_span

-- the instructions before the first one at the place; all of them where there is none
abbrev pub steps_to : Span → List (TInstr × Span) → List (TInstr × Span)
steps_to place [] = []
steps_to place (x ∷ xs) = if is_at place x.1 then [] else x ∷ steps_to place xs

-- instruction i of block b of these blocks stands before the place, or is the first there
abbrev pub IsBefore : Span → List SBlock → (b i : ℕ) → Type 0
IsBefore place [] b i = ⊥
IsBefore place (x ∷ xs) zero i = in_block place x ≡ true → i ≤ length (steps_to place x.body)
IsBefore place (x ∷ xs) (suc b) i = (in_block place x ≡ false) × IsBefore place xs b i
